-- Many merges, one after another.
use Rattle.std.proofs.Common.{◌≡◌, ℕ, ◌+◌, ◌<◌, ◌≤◌, Bool, List, [], ◌∷◌, ◌++◌, length, take, get_or, refl, sym, ap, ◌∙◌, subst, arith}
use Rattle.std.specs.Cmp.{IsEquivalence}
use Rattle.std.specs.Borrow.{Bor}
use Rattle.std.specs.List.{All, AllZip, IsDistinct}
use Rattle.std.specs.Map.{keys_of}
use Rattle.std.proofs.lemmas.List.{get_or-map, length-map, take_all, take_more}
use Rattle.std.proofs.lemmas.List.Elements.{All-head, All-tail, All-push}
use Rattle.std.proofs.lemmas.List.Sums.{sum_by-cons, sum_by_more_le, sum_by_push}
use Rattle.counter_table.specs.Tables.{IsSameMap}
use Rattle.sketch_frequencies.specs.History.{FrequentHistory}
use Rattle.sketch_frequencies.specs.History.FrequentHistory.{Merge}
use Rattle.sketch_frequencies.specs.ManyMerges.{states_of, total_of_all, all_merged, JoinsAll, ExtendsAll, StandsInBudget, ExtendsAllBudgets}
use Rattle.sketch_frequencies.specs.Stands.{StandsFor, KeepsTailBudget, Extends, ExtendsBoth, ExtendsBothBudgets}
use Rattle.sketch_frequencies.specs.State.{FrequentState, IsState}
use Rattle.sketch_frequencies.specs.Steps.{IsSameState, JoinsEqual}
use Rattle.sketch_frequencies.proofs.Merges.{joins_nothing, stands_joins_equal, budget_joins_equal}
use Rattle.sketch_frequencies.proofs.SameMaps.{same_count, same_distinct, same_positive}
use Rattle.sketch_frequencies.proofs.SameMapsByCounts.{same_map}

-- ---- lists

-- a list of pairs whose first parts end in x ends in one
record EndsIn {A B : Type 0} (R : A → B → Type 0) (xs : List A) (x : A) (zs : List B) : Type 0 where
  pub front : List B
  pub last : B
  pub parts : zs ≡ front ++ last ∷ []
  pub all : AllZip R xs front
  pub one : R x last

ends_in : {A B : Type 0} (R : A → B → Type 0) (xs : List A) (x : A) (zs : List B) → AllZip R (xs ++ x ∷ []) zs → EndsIn R xs x zs
ends_in R [] x [] all = absurd all
ends_in R [] x (z ∷ []) all = record { front = []; last = z; parts = refl; all = tt; one = all.0 }
ends_in R [] x (z ∷ y ∷ zs) all = absurd all.1
ends_in R (w ∷ xs) x [] all = absurd all
ends_in {B = B} R (w ∷ xs) x (z ∷ zs) all =
    let more = ends_in R xs x zs all.1 in
    record { front = z ∷ more.front; last = more.last; parts = ap (λ (l : List B). z ∷ l) more.parts; all = (all.0, more.all); one = more.one }

weaker : {A B : Type 0} (P Q : A → B → Type 0) → ((x : A) (y : B) → P x y → Q x y) → (xs : List A) (ys : List B) → AllZip P xs ys → AllZip Q xs ys
weaker P Q f [] [] all = tt
weaker P Q f [] (y ∷ ys) all = absurd all
weaker P Q f (x ∷ xs) [] all = absurd all
weaker P Q f (x ∷ xs) (y ∷ ys) all = (f x y all.0, weaker P Q f xs ys all.1)

-- ---- the sketches that references name

at_index : {T : Type 0} (others : List (Bor (FrequentState T))) (i : ℕ) (other : Bor (FrequentState T)) → i < length others → other ≡ get_or others i other → get_or (states_of others) i other.now ≡ other.now
at_index {T} others i other lt is = let state : Bor (FrequentState T) → FrequentState T = λ o. o.now in get_or-map state others i other other.now lt ∙ ap state (sym is)

-- one more
pub states_more : {T : Type 0} (others : List (Bor (FrequentState T))) (i : ℕ) (other : Bor (FrequentState T)) → i < length others → other ≡ get_or others i other → take (i + 1) (states_of others) ≡ take i (states_of others) ++ other.now ∷ []
states_more {T} others i other lt is =
    let state : Bor (FrequentState T) → FrequentState T = λ o. o.now in
    take_more (states_of others) i other.now (omega (arith, lt, length-map others state)) ∙ ap (λ s. take i (states_of others) ++ s ∷ []) (at_index others i other lt is)

-- all of them
pub states_all : {T : Type 0} (others : List (Bor (FrequentState T))) (i : ℕ) → length others ≤ i → take i (states_of others) ≡ states_of others
states_all {T} others i le = let state : Bor (FrequentState T) → FrequentState T = λ o. o.now in take_all i (states_of others) (omega (arith, le, length-map others state))

pub states_some : {T : Type 0} (others : List (Bor (FrequentState T))) → 0 < length others → 0 < length (states_of others)
states_some {T} others some = let state : Bor (FrequentState T) → FrequentState T = λ o. o.now in omega (arith, some, length-map others state)

-- the total so far and one more
pub total_more : {T : Type 0} (others : List (Bor (FrequentState T))) (i : ℕ) (other : Bor (FrequentState T)) → i < length others → other ≡ get_or others i other → total_of_all (take (i + 1) (states_of others)) ≡ total_of_all (take i (states_of others)) + other.now.total
total_more {T} others i other lt is = let total : FrequentState T → ℕ = λ s. s.total in ap total_of_all (states_more others i other lt is) ∙ sum_by_push total (take i (states_of others)) other.now

pub total_most : {T : Type 0} (others : List (Bor (FrequentState T))) (i : ℕ) (other : Bor (FrequentState T)) → i < length others → other ≡ get_or others i other → total_of_all (take i (states_of others)) + other.now.total ≤ total_of_all (states_of others)
total_most {T} others i other lt is =
    let state : Bor (FrequentState T) → FrequentState T = λ o. o.now in
    let total : FrequentState T → ℕ = λ s. s.total in
    omega (arith, sum_by_more_le total (states_of others) i other.now (omega (arith, lt, length-map others state)), ap total (at_index others i other lt is))

-- one more state
pub all_more : {T : Type 0} (P : FrequentState T → Type 0) (others : List (Bor (FrequentState T))) (i : ℕ) (other : Bor (FrequentState T)) → i < length others → other ≡ get_or others i other → All P (take i (states_of others)) → P other.now → All P (take (i + 1) (states_of others))
all_more P others i other lt is all one = subst (λ ss. All P ss) (sym (states_more others i other lt is)) (All-push P (take i (states_of others)) other.now all one)

-- sketches that weigh anything are some
pub some_from_total : {T : Type 0} (others : List (Bor (FrequentState T))) → 0 < total_of_all (states_of others) → 0 < length others
some_from_total [] some = absurd (omega (arith, some))
some_from_total (other ∷ others) some = omega arith

-- ---- histories

merged_more : {T : Type 0} (h : FrequentHistory T) (gs : List (FrequentHistory T)) (g : FrequentHistory T) → all_merged h (gs ++ g ∷ []) ≡ Merge (all_merged h gs) g
merged_more h [] g = refl
merged_more h (f ∷ gs) g = merged_more (Merge h f) gs g

-- ---- the same sketch

module _ {T : Type 0} {eq : T → T → Bool} (laws : IsEquivalence eq) where
  same_map_trans : (es fs gs : List (T × ℕ)) → (s : FrequentState T) → IsState eq s → es ≡ s.counters → IsSameMap eq es fs → IsSameMap eq fs gs → IsSameMap eq es gs
  same_map_trans es fs gs s ok is first second =
      let apart : IsDistinct eq (keys_of es) = rw is ok.distinct in
      let some : All (λ e. 0 < e.1) es = rw is ok.positive in
      let apart2 = same_distinct laws es fs apart first in
      let some2 = same_positive laws es fs first some in
      same_map laws es gs apart (same_distinct laws fs gs apart2 second) some (same_positive laws fs gs second some2) (λ y. sym (same_count laws fs gs y apart2 second ∙ same_count laws es fs y apart first))

  -- the same as one that is the same
  same_state_trans : (s t u : FrequentState T) → IsState eq s → IsSameState eq s t → IsSameState eq t u → IsSameState eq s u
  same_state_trans s t u ok first second = record {
    holds = record {
      counters = same_map_trans s.counters t.counters u.counters s ok refl first.holds.counters second.holds.counters;
      error = second.holds.error ∙ first.holds.error;
      total = second.holds.total ∙ first.holds.total;
      max_size = second.holds.max_size ∙ first.holds.max_size;
      size = second.holds.size ∙ first.holds.size;
    };
    sample_size = second.sample_size ∙ first.sample_size;
    key = second.key ∙ first.key;
    purges = second.purges ∙ first.purges;
  }

  -- a join with a sketch that is the same as old is one with old
  joins_alike : (old start other new : FrequentState T) → IsState eq old → IsSameState eq old start → JoinsEqual eq start other new → JoinsEqual eq old other new
  joins_alike old start other new ok same j = record {
    own = j.own;
    same_own = same_state_trans old start j.own ok same j.same_own;
    more = j.more;
    same_more = j.same_more;
    join = j.join;
  }

  pub joins_all_alike : (old start new : FrequentState T) (others : List (FrequentState T)) → IsState eq old → IsSameState eq old start → 0 < length others → JoinsAll eq start others new → JoinsAll eq old others new
  joins_all_alike old start new [] ok same some joins = absurd (omega (arith, some))
  joins_all_alike old start new (other ∷ others) ok same some joins = (joins.0, joins_alike old start other joins.0 ok same joins.1, joins.2)

-- ---- the others so far were merged

-- into a sketch that is the same as old
pub record HasMerged {T : Type 0} (eq : T → T → Bool) (old : FrequentState T) (others : List (FrequentState T)) (now : FrequentState T) : Type 0 where
  pub start : FrequentState T
  pub same : IsSameState eq old start
  pub joins : JoinsAll eq start others now
  pub stands : ExtendsAll eq old others now
  pub budget : ExtendsAllBudgets eq old others now

joins_more : {T : Type 0} (eq : T → T → Bool) (old mid new : FrequentState T) (others : List (FrequentState T)) (other : FrequentState T) → JoinsAll eq old others mid → JoinsEqual eq mid other new → JoinsAll eq old (others ++ other ∷ []) new
joins_more {T} eq old mid new [] other is j = (new, subst (λ (s : FrequentState T). JoinsEqual eq s other new) is j, refl)
joins_more eq old mid new (first ∷ others) other joins j = (joins.0, joins.1, joins_more eq joins.0 mid new others other joins.2 j)

-- one more in the history
stands_more : {T : Type 0} (eq : T → T → Bool) (old mid new : FrequentState T) (others : List (FrequentState T)) (other : FrequentState T) → ExtendsAll eq old others mid → ExtendsBoth eq mid other new Merge → ExtendsAll eq old (others ++ other ∷ []) new
stands_more {T} eq old mid new others other before one h gs s all =
    let ends = ends_in (StandsFor eq) others other gs all in
    subst (λ (g : FrequentHistory T). StandsFor eq new g) (sym (ap (all_merged h) ends.parts ∙ merged_more h ends.front ends.last)) (one (all_merged h ends.front) ends.last (before h ends.front s ends.all) ends.one)

budget_more : {T : Type 0} (eq : T → T → Bool) (old mid new : FrequentState T) (others : List (FrequentState T)) (other : FrequentState T) → ExtendsAll eq old others mid → ExtendsAllBudgets eq old others mid → ExtendsBothBudgets eq mid other new Merge → ExtendsAllBudgets eq old (others ++ other ∷ []) new
budget_more {T} eq old mid new others other stands before one h gs s all =
    let ends = ends_in (StandsInBudget eq) others other gs all in
    let so_far = stands h ends.front s.0 (weaker (StandsInBudget eq) (StandsFor eq) (λ t g both. both.0) others ends.front ends.all) in
    subst (λ (g : FrequentHistory T). KeepsTailBudget eq new g) (sym (ap (all_merged h) ends.parts ∙ merged_more h ends.front ends.last)) (one (all_merged h ends.front) ends.last so_far ends.one.0 (before h ends.front s ends.all) ends.one.1)

-- none yet
none_stands : {T : Type 0} (eq : T → T → Bool) (old start : FrequentState T) → Extends eq old start (λ h. h) → ExtendsAll eq old [] start
none_stands eq old start stands h [] s all = stands h s
none_stands eq old start stands h (g ∷ gs) s all = absurd all

none_budget : {T : Type 0} (eq : T → T → Bool) (old start : FrequentState T) → ((h : FrequentHistory T) → KeepsTailBudget eq old h → KeepsTailBudget eq start h) → ExtendsAllBudgets eq old [] start
none_budget eq old start budget h [] s all = budget h s.1
none_budget eq old start budget h (g ∷ gs) s all = absurd all

pub has_merged_none : {T : Type 0} (eq : T → T → Bool) (old start : FrequentState T) → IsSameState eq old start → Extends eq old start (λ h. h) → ((h : FrequentHistory T) → KeepsTailBudget eq old h → KeepsTailBudget eq start h) → HasMerged eq old [] start
has_merged_none eq old start same stands budget = record { start = start; same = same; joins = refl; stands = none_stands eq old start stands; budget = none_budget eq old start budget }

-- one more
pub has_merged_more : {T : Type 0} (eq : T → T → Bool) (old mid new : FrequentState T) (others : List (FrequentState T)) (other : FrequentState T) → HasMerged eq old others mid → JoinsEqual eq mid other new → ExtendsBoth eq mid other new Merge → ExtendsBothBudgets eq mid other new Merge → HasMerged eq old (others ++ other ∷ []) new
has_merged_more eq old mid new others other so_far join stands budget = record {
  start = so_far.start;
  same = so_far.same;
  joins = joins_more eq so_far.start mid new others other so_far.joins join;
  stands = stands_more eq old mid new others other so_far.stands stands;
  budget = budget_more eq old mid new others other so_far.stands so_far.budget budget;
}

-- ---- empty others

module _ {T : Type 0} {eq : T → T → Bool} (laws : IsEquivalence eq) where
  total_first : (other : FrequentState T) (others : List (FrequentState T)) → total_of_all (other ∷ others) ≡ other.total + total_of_all others
  total_first other others = sum_by-cons (λ (s : FrequentState T). s.total) other others

  pub joins_empty : (old : FrequentState T) (others : List (FrequentState T)) → total_of_all others ≡ 0 → JoinsAll eq old others old
  joins_empty old [] none = refl
  joins_empty old (other ∷ others) none =
      let total = total_first other others in
      (old, joins_nothing laws old other (omega (arith, none, total)), joins_empty old others (omega (arith, none, total)))

  pub stands_empty : (old : FrequentState T) (others : List (FrequentState T)) → IsState eq old → All (IsState eq) others → total_of_all others ≡ 0 → ExtendsAll eq old others old
  stands_empty old [] ok all none h [] s zips = s
  stands_empty old [] ok all none h (g ∷ gs) s zips = absurd zips
  stands_empty old (other ∷ others) ok all none h [] s zips = absurd zips
  stands_empty old (other ∷ others) ok all none h (g ∷ gs) s zips =
      let total = total_first other others in
      let first = stands_joins_equal laws old other old ok (All-head (IsState eq) other others all) (joins_nothing laws old other (omega (arith, none, total))) h g s zips.0 in
      stands_empty old others ok (All-tail (IsState eq) other others all) (omega (arith, none, total)) (Merge h g) gs first zips.1

  pub budget_empty : (old : FrequentState T) (others : List (FrequentState T)) → IsState eq old → All (IsState eq) others → total_of_all others ≡ 0 → ExtendsAllBudgets eq old others old
  budget_empty old [] ok all none h [] s zips = s.1
  budget_empty old [] ok all none h (g ∷ gs) s zips = absurd zips
  budget_empty old (other ∷ others) ok all none h [] s zips = absurd zips
  budget_empty old (other ∷ others) ok all none h (g ∷ gs) s zips =
      let total = total_first other others in
      let other_ok = All-head (IsState eq) other others all in
      let join = joins_nothing laws old other (omega (arith, none, total)) in
      let first = stands_joins_equal laws old other old ok other_ok join h g s.0 zips.0.0 in
      let keeps = budget_joins_equal laws old other old ok other_ok join h g s.0 zips.0.0 s.1 zips.0.1 in
      budget_empty old others ok (All-tail (IsState eq) other others all) (omega (arith, none, total)) (Merge h g) gs (first, keeps) zips.1

-- ---- one other

pub joins_one : {T : Type 0} (eq : T → T → Bool) (old other new : FrequentState T) → JoinsAll eq old (other ∷ []) new → JoinsEqual eq old other new
joins_one {T} eq old other new joins = subst (λ (s : FrequentState T). JoinsEqual eq old other s) (sym joins.2) joins.1

pub stands_one : {T : Type 0} (eq : T → T → Bool) (old other new : FrequentState T) → ExtendsAll eq old (other ∷ []) new → ExtendsBoth eq old other new Merge
stands_one eq old other new all h g s t = all h (g ∷ []) s (t, tt)

pub budget_one : {T : Type 0} (eq : T → T → Bool) (old other new : FrequentState T) → ExtendsAllBudgets eq old (other ∷ []) new → ExtendsBothBudgets eq old other new Merge
budget_one eq old other new all h g s t keeps more = all h (g ∷ []) (s, keeps) ((t, more), tt)
