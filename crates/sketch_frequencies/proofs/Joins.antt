-- What a run of steps and a join keep.
use Rattle.std.proofs.Common.{◌≡◌, ℕ, ◌+◌, ◌-◌, ◌*◌, ◌/◌, ◌<◌, ◌≤◌, Bool, true, false, cond, List, [], ◌∷◌, ◌++◌, length, refl, ap, sym, ◌∙◌, subst, arith, sum_by, ◌||◌, IsPermutation}
use Rattle.std.proofs.Math.Nat.{mul-le-mul_left}
use Rattle.std.specs.Cmp.{IsEquivalence}
use Rattle.std.specs.List.{list_any, All}
use Rattle.std.specs.Map.{keys_of}
use Rattle.std.proofs.lemmas.Bool.{cases_lt, false≢true}
use Rattle.std.proofs.lemmas.List.Elements.{All-nil, All-cons, All-weaker, All-head, All-tail}
use Rattle.std.proofs.lemmas.List.Sums.{sum_by-cons}
use Rattle.std.proofs.lemmas.List.Sorted.{sum_by-IsPermutation, IsPermutation-refl, IsPermutation-map, All-permutation, list_any-IsPermutation}
use Rattle.std.proofs.lemmas.List.Folds.{list_any-append}
use Rattle.std.proofs.lemmas.Map.Entries.{length-keys_of}
use Rattle.std.proofs.lemmas.Map.Made.{length-le_from_is_member}
use Rattle.counter_table.specs.Tables.{Table, count_of, is_tracked, put, sum_of, sum_outside}
use Rattle.sketch_frequencies.specs.History.{FrequentHistory, true_weight, total_weight, weight_outside, min_size, min_sample, budget_size}
use Rattle.sketch_frequencies.specs.History.FrequentHistory.{New, Update, Merge, Reset, Restored}
use Rattle.sketch_frequencies.specs.State.{FrequentState, IsState, IsSampleSize, capacity, state_of}
use Rattle.sketch_frequencies.specs.Stands.{Encloses, StandsFor, KeepsTailBudget, HasFewItems}
use Rattle.sketch_frequencies.specs.Steps.{Steps, StepsAlong, AddsAll, Joins}
use Rattle.sketch_frequencies.specs.Growth.{Adds}
use Rattle.sketch_frequencies.proofs.Cases.{by_test, by_cases}
use Rattle.sketch_frequencies.proofs.Enclosure.{counted, min_le_own, sample_enough}
use Rattle.sketch_frequencies.proofs.Permutations.{share, share_is, count_is_sum, count_of-permutation}
use Rattle.sketch_frequencies.proofs.Powers.{doubled_fits, lesser_power}
use Rattle.sketch_frequencies.proofs.Reports.{or_true, or_false}
use Rattle.sketch_frequencies.proofs.Puts.{is_tracked-keys, keys_of-put, same_set_test, IsDistinct-put, length_put_le, positive_from_tracked}
use Rattle.sketch_frequencies.proofs.UpdateStates.{state_after, state_made, length_le_sum}
use Rattle.sketch_frequencies.proofs.Tail.{budget_step}

-- a step leaves a state
pub state_step : {T : Type 0} {eq : T → T → Bool} → IsEquivalence eq → (old new : FrequentState T) (x : T) (w : ℕ) → 0 < w → IsState eq old → Steps eq old x w new → IsState eq new
state_step {T} {eq} laws old new x w pos ok step =
    by_cases (cases_lt (capacity old.size) (length (put eq old.counters x w)))
    (λ over. by_cases (cases_lt old.size old.max_size)
    (λ below.
    let k = step.doubled over below in
    let fits = doubled_fits old.size old.max_size ok.size_power ok.max_size_power below in
    let some : 0 < old.total = omega (arith, over, length_put_le eq old.counters x w, length_le_sum old.counters ok.positive, ok.sum, ok.least) in
    let wide : Table T = record { entries = old.counters; size = 2 * old.size; key = old.key; purges = old.purges } in
    let mid : FrequentState T = state_of wide old.error old.total old.max_size old.sample_size in
    let made : IsState eq mid = state_made laws old wide ok (IsPermutation-refl old.counters) refl fits some in
    let adds : Adds eq mid x w new = record { total = step.total; max_size = step.max_size; sample_size = step.sample_size; key = step.key; kept = λ _. k; purge = λ more. absurd (omega (arith, more, length_put_le eq old.counters x w, ok.few, ok.least)) } in
    state_after laws mid new x w pos made adds)
    (λ at.
    let k = step.purge over (omega (arith, ok.within)) in
    state_after laws old new x w pos ok (record { total = step.total; max_size = step.max_size; sample_size = step.sample_size; key = step.key; kept = λ room. absurd (omega (arith, room, over)); purge = λ _. k })))
    (λ room.
    let k = step.kept room in
    state_after laws old new x w pos ok (record { total = step.total; max_size = step.max_size; sample_size = step.sample_size; key = step.key; kept = λ _. k; purge = λ over. absurd (omega (arith, room, over)) }))

-- one step more
pub steps_more : {T : Type 0} (eq : T → T → Bool) (old mid new : FrequentState T) (ps : List (T × ℕ)) (p : T × ℕ) → StepsAlong eq old ps mid → Steps eq mid p.0 p.1 new → StepsAlong eq old (ps ++ p ∷ []) new
steps_more {T} eq old mid new [] p run step = (new, subst (λ (s : FrequentState T). Steps eq s p.0 p.1 new) run step, refl)
steps_more eq old mid new (q ∷ ps) p run step = (run.0, run.1, steps_more eq run.0 mid new ps p run.2 step)

-- what a run of steps says
pub record Ran {T : Type 0} (eq : T → T → Bool) (old : FrequentState T) (ps : List (T × ℕ)) (new : FrequentState T) : Type 0 where
  pub state : IsState eq new
  pub total : new.total ≡ old.total + sum_of ps
  pub max_size : new.max_size ≡ old.max_size
  pub sample_size : new.sample_size ≡ old.sample_size
  pub low : (y : T) → count_of eq new.counters y ≤ count_of eq old.counters y + sum_by (share eq y) ps
  pub high : (y : T) → count_of eq old.counters y + sum_by (share eq y) ps + old.error ≤ count_of eq new.counters y + new.error

pub ran : {T : Type 0} {eq : T → T → Bool} → IsEquivalence eq → (old new : FrequentState T) (ps : List (T × ℕ)) → IsState eq old → All (λ p. 0 < p.1) ps → StepsAlong eq old ps new → Ran eq old ps new
ran {T} {eq} laws old new [] ok pos is = subst (λ (s : FrequentState T). Ran eq old [] s) (sym is) (record { state = ok; total = omega arith; max_size = refl; sample_size = refl; low = λ y. omega arith; high = λ y. omega arith })
ran {T} {eq} laws old new (p ∷ ps) ok pos run =
    let P : T × ℕ → Type 0 = λ p. 0 < p.1 in
    let num : T × ℕ → ℕ = λ p. p.1 in
    let first = counted laws old run.0 p.0 p.1 ok run.1 in
    let rest = ran laws run.0 new ps (state_step laws old run.0 p.0 p.1 (All-head P p ps pos) ok run.1) (All-tail P p ps pos) run.2 in
    let same = λ (y : T). share_is eq y p ∙ ap (λ b. cond b p.1 0) (laws.symm y p.0) in
    record {
      state = rest.state;
      total = omega (arith, rest.total, run.1.total, sum_by-cons num p ps);
      max_size = rest.max_size ∙ run.1.max_size;
      sample_size = rest.sample_size ∙ run.1.sample_size;
      low = λ y. omega (arith, rest.low y, first.low y, same y, sum_by-cons (share eq y) p ps);
      high = λ y. omega (arith, rest.high y, first.high y, same y, sum_by-cons (share eq y) p ps);
    }

-- every tracked item is among the few
abbrev IsAmong : {T : Type 0} → (T → T → Bool) → List T → FrequentState T → Type 0
IsAmong {T} eq few s = (y : T) → is_tracked eq s.counters y ≡ true → list_any (eq y) few ≡ true

-- an item that came by a `put` is equal to the one that was put
came_by_put : {T : Type 0} {eq : T → T → Bool} → IsEquivalence eq → (es : List (T × ℕ)) (x : T) (w : ℕ) (y : T) → is_tracked eq es y ≡ false → list_any (eq y) (keys_of (put eq es x w)) ≡ true → eq y x ≡ true
came_by_put {eq = eq} laws es x w y absent there =
    let none : list_any (eq y) (keys_of es) ≡ false = sym (is_tracked-keys eq es y) ∙ absent in
    by_test (is_tracked eq es x) (λ b. list_any (eq y) (cond b (keys_of es) (keys_of es ++ x ∷ [])) ≡ true → eq y x ≡ true)
    (λ _ h. absurd (false≢true (sym none ∙ h)))
    (λ _ h. or_false (eq y x) (ap (λ b. b || (eq y x || false)) (sym none) ∙ (sym (list_any-append (eq y) (keys_of es) (x ∷ [])) ∙ h)))
    (ap (λ l. list_any (eq y) l) (sym (keys_of-put eq es x w)) ∙ there)

-- the item of each entry is among the items
keys_found : {T : Type 0} {eq : T → T → Bool} → IsEquivalence eq → (es : List (T × ℕ)) → All (λ e. list_any (eq e.0) (keys_of es) ≡ true) es
keys_found laws [] = All-nil _
keys_found {T} {eq} laws (a ∷ es) =
    let Q : T × ℕ → Type 0 = λ e. list_any (eq e.0) (keys_of (a ∷ es)) ≡ true in
    All-cons Q a es (rw (laws.refl a.0) refl) (All-weaker (λ (e : T × ℕ). list_any (eq e.0) (keys_of es) ≡ true) Q (λ e there. rw there (or_true (eq e.0 a.0))) es (keys_found laws es))

-- few items leave no error: a step of one of them from no error purges nothing
exact_step : {T : Type 0} {eq : T → T → Bool} → IsEquivalence eq → (old new : FrequentState T) (x : T) (w : ℕ) → IsState eq old → Steps eq old x w new → old.error ≡ 0 → (few : List T) → length few ≤ capacity old.max_size → IsAmong eq few old → list_any (eq x) few ≡ true → (new.error ≡ 0) × IsAmong eq few new
exact_step {T} {eq} laws old new x w ok step none few short among here =
    let c1 = put eq old.counters x w in
    let apart = IsDistinct-put laws old.counters x w ok.distinct in
    let covered : (y : T) → list_any (eq y) (keys_of c1) ≡ true → list_any (eq y) few ≡ true = λ y there.
    by_test (is_tracked eq old.counters y) (λ b. is_tracked eq old.counters y ≡ b → list_any (eq y) few ≡ true)
    (λ _ yet. among y yet)
    (λ _ new_one. same_set_test laws few y x (came_by_put laws old.counters x w y new_one there) ∙ here) refl in
    let fits : length c1 ≤ length few = omega (arith, length-le_from_is_member laws (keys_of c1) few apart covered, length-keys_of c1) in
    let kept : IsPermutation c1 new.counters → IsAmong eq few new = λ p y there. covered y (list_any-IsPermutation (eq y) (keys_of c1) (keys_of new.counters) (IsPermutation-map (λ (e : T × ℕ). e.0) c1 new.counters p) ∙ (sym (is_tracked-keys eq new.counters y) ∙ there)) in
    by_cases (cases_lt (capacity old.size) (length c1))
    (λ over. by_cases (cases_lt old.size old.max_size)
    (λ below. let k = step.doubled over below in (k.error ∙ none, kept k.counters))
    (λ at. let same : old.size ≡ old.max_size = omega (arith, ok.within) in absurd (omega (arith, over, fits, short, ap capacity same))))
    (λ room. let k = step.kept room in (k.error ∙ none, kept k.counters))

exact_run : {T : Type 0} {eq : T → T → Bool} → IsEquivalence eq → (old new : FrequentState T) (ps : List (T × ℕ)) → IsState eq old → All (λ p. 0 < p.1) ps → StepsAlong eq old ps new → old.error ≡ 0 → (few : List T) → length few ≤ capacity old.max_size → IsAmong eq few old → All (λ p. list_any (eq p.0) few ≡ true) ps → new.error ≡ 0
exact_run laws old new [] ok pos is none few short among here = ap (λ s. s.error) is ∙ none
exact_run {T} {eq} laws old new (p ∷ ps) ok pos run none few short among here =
    let P : T × ℕ → Type 0 = λ p. 0 < p.1 in
    let Q : T × ℕ → Type 0 = λ p. list_any (eq p.0) few ≡ true in
    let first = exact_step laws old run.0 p.0 p.1 ok run.1 none few short among (All-head Q p ps here) in
    exact_run laws run.0 new ps (state_step laws old run.0 p.0 p.1 (All-head P p ps pos) ok run.1) (All-tail P p ps pos) run.2 first.0 few (omega (arith, short, ap capacity run.1.max_size)) first.1 (All-tail Q p ps here)

-- no item weighs more than all
true_le_total : {T : Type 0} (eq : T → T → Bool) (h : FrequentHistory T) (y : T) → true_weight eq h y ≤ total_weight h
true_le_total eq (New m n) y = omega arith
true_le_total eq (Update h x w) y = by_test (eq x y) (λ b. true_weight eq h y + cond b w 0 ≤ total_weight h + w) (λ _. omega (arith, true_le_total eq h y)) (λ _. omega (arith, true_le_total eq h y))
true_le_total eq (Merge h g) y = omega (arith, true_le_total eq h y, true_le_total eq g y)
true_le_total eq (Reset h) y = omega arith
true_le_total eq (Restored h) y = true_le_total eq h y

-- the budget over a run of steps
steps_budget : {T : Type 0} {eq : T → T → Bool} → IsEquivalence eq → (old new : FrequentState T) (ps : List (T × ℕ)) → IsState eq old → All (λ p. 0 < p.1) ps → StepsAlong eq old ps new → (n : ℕ) → n ≤ old.sample_size / 2 → (set : List T) → length set ≤ n → (b : ℕ) → sum_outside eq set old.counters + (n - length set) * old.error ≤ b → sum_outside eq set new.counters + (n - length set) * new.error ≤ b + sum_outside eq set ps
steps_budget {T} {eq} laws old new [] ok pos is n half set short b held = subst (λ (s : FrequentState T). sum_outside eq set s.counters + (n - length set) * s.error ≤ b + 0) (sym is) (omega (arith, held))
steps_budget {T} {eq} laws old new (p ∷ ps) ok pos run n half set short b held =
    let P : T × ℕ → Type 0 = λ p. 0 < p.1 in
    let share : T × ℕ → ℕ = λ e. cond (list_any (eq e.0) set) 0 e.1 in
    let mid_ok = state_step laws old run.0 p.0 p.1 (All-head P p ps pos) ok run.1 in
    let first = budget_step laws old run.0 p.0 p.1 ok run.1 n half set short b held in
    let rest = steps_budget laws run.0 new ps mid_ok (All-tail P p ps pos) run.2 n (omega (arith, half, run.1.sample_size)) set short (b + cond (list_any (eq p.0) set) 0 p.1) first in
    omega (arith, rest, sum_by-cons share p ps)

pub less_of_more : (d d' e : ℕ) → d ≤ d' → d * e ≤ d' * e
less_of_more d d' e h = omega (arith, mul-le-mul_left e h)

-- few items in both are few in each
abbrev few_in_own : {T : Type 0} {eq : T → T → Bool} (h g : FrequentHistory T) → HasFewItems eq (Merge h g) → HasFewItems eq h
few_in_own h g few = record { items = few.items; fit = omega (arith, few.fit); cover = λ y p. few.cover y (omega (arith, p)) }

abbrev pub few_in_other : {T : Type 0} {eq : T → T → Bool} (h g : FrequentHistory T) → HasFewItems eq (Merge h g) → HasFewItems eq g
few_in_other h g few = record { items = few.items; fit = omega (arith, few.fit); cover = λ y p. few.cover y (omega (arith, p)) }

module _ {T : Type 0} {eq : T → T → Bool} (laws : IsEquivalence eq) (old other new : FrequentState T) (ok : IsState eq old) (other_ok : IsState eq other) (join : Joins eq old other new) (h g : FrequentHistory T) (s : StandsFor eq old h) (t : StandsFor eq other g) where
  -- the other's counters in the order of the join
  positive_in_order : (j : AddsAll eq old other new) → All (λ p. 0 < p.1) j.order
  positive_in_order j = All-permutation (λ p. 0 < p.1) other.counters j.order j.whole other_ok.positive

  budget_start : KeepsTailBudget eq old h → (set : List T) → length set ≤ budget_size (Merge h g) → sum_outside eq set old.counters + (budget_size (Merge h g) - length set) * old.error ≤ weight_outside eq set h
  budget_start keeps set short = omega (arith, keeps set (omega (arith, short)), less_of_more (budget_size (Merge h g) - length set) (budget_size h - length set) old.error (omega arith))

  budget_other : KeepsTailBudget eq other g → (set : List T) → length set ≤ budget_size (Merge h g) → sum_outside eq set other.counters + (budget_size (Merge h g) - length set) * other.error ≤ weight_outside eq set g
  budget_other keeps set short = omega (arith, keeps set (omega (arith, short)), less_of_more (budget_size (Merge h g) - length set) (budget_size g - length set) other.error (omega arith))

  -- a join keeps the tail budget
  pub budget_merged : KeepsTailBudget eq old h → KeepsTailBudget eq other g → KeepsTailBudget eq new (Merge h g)
  budget_merged keeps other_keeps = λ set short.
      let share : T × ℕ → ℕ = λ e. cond (list_any (eq e.0) set) 0 e.1 in
      let d = budget_size (Merge h g) - length set in
      let start = budget_start keeps set short in
      by_cases (cases_lt 0 other.total)
      (λ some.
      let j = join.added some in
      let run = steps_budget laws old j.last j.order ok (positive_in_order j) j.steps (budget_size (Merge h g)) (omega (arith, sample_enough old h s)) set short (weight_outside eq set h) start in
      let same = sum_by-IsPermutation share other.counters j.order j.whole in
      let moved = sum_by-IsPermutation share j.last.counters new.counters j.left.counters in
      rw j.left.error (omega (arith, run, same, moved, budget_other other_keeps set short)))
      (λ none.
      let same = join.nothing (omega (arith, none)) in
      subst (λ (n : FrequentState T). sum_outside eq set n.counters + d * n.error ≤ weight_outside eq set h + weight_outside eq set g) (sym same) (omega (arith, start)))

  -- a tracked item is among those that cover the history
  among_old : (few : HasFewItems eq h) → IsAmong eq few.items old
  among_old few y there = few.cover y (omega (arith, positive_from_tracked eq old.counters y ok.positive (sym (is_tracked-keys eq old.counters y) ∙ there), s.encloses.at_least y))

  among_other : (few : HasFewItems eq g) → All (λ p. list_any (eq p.0) few.items ≡ true) other.counters
  among_other few = All-weaker (λ (p : T × ℕ). list_any (eq p.0) (keys_of other.counters) ≡ true) (λ p. list_any (eq p.0) few.items ≡ true) (λ p there. few.cover p.0 (omega (arith, positive_from_tracked eq other.counters p.0 other_ok.positive there, t.encloses.at_least p.0))) other.counters (keys_found laws other.counters)

  -- the least sample of both is one that a sketch of the least size may have
  sample_joined : IsSampleSize (min_size (Merge h g)) (min_sample (Merge h g))
  sample_joined =
      let a = s.encloses.sample in
      let b = t.encloses.sample in
      record {
        least = omega (arith, a.least, b.least);
        even = omega (arith, a.even, b.even);
        greatest = omega (arith, a.greatest, b.greatest);
      }

  -- what a join leaves encloses both histories
  encloses_joined : AddsAll eq old other new → Encloses eq new (Merge h g)
  encloses_joined j =
      let a = s.encloses in
      let b = t.encloses in
      let r = ran laws old j.last j.order ok (positive_in_order j) j.steps in
      let shared = λ (y : T). sum_by-IsPermutation (share eq y) other.counters j.order j.whole ∙ sym (count_is_sum laws other.counters y other_ok.distinct) in
      let moved = λ (y : T). count_of-permutation laws j.last.counters new.counters y r.state.distinct j.left.counters in
      record {
        max_size = j.max_size ∙ a.max_size;
        total = omega (arith, j.total, a.total, b.total);
        at_least = λ y. omega (arith, moved y, r.low y, shared y, a.at_least y, b.at_least y);
        at_most = λ y. omega (arith, moved y, r.high y, shared y, a.at_most y, b.at_most y, j.left.error);
        exact = λ few.
            let none = a.exact (few_in_own h g few) in
            let none' = b.exact (few_in_other h g few) in
            let here = All-permutation (λ p. list_any (eq p.0) few.items ≡ true) other.counters j.order j.whole (among_other (few_in_other h g few)) in
            let last = exact_run laws old j.last j.order ok (positive_in_order j) j.steps none few.items (omega (arith, few.fit, min_le_own h, a.max_size)) (among_old (few_in_own h g few)) here in
            omega (arith, j.left.error, last, none');
        least = omega (arith, a.least, b.least);
        power = lesser_power (min_size h) (min_size g) a.power b.power;
        sample = sample_joined;
      }

  -- the sketch itself does, where nothing was fed into the other
  encloses_alone : other.total ≡ 0 → Encloses eq old (Merge h g)
  encloses_alone none =
      let a = s.encloses in
      let b = t.encloses in
      record {
        max_size = a.max_size;
        total = omega (arith, a.total, b.total, none);
        at_least = λ y. omega (arith, a.at_least y);
        at_most = λ y. omega (arith, a.at_most y, true_le_total eq g y, b.total, none);
        exact = λ few. a.exact (few_in_own h g few);
        least = omega (arith, a.least, b.least);
        power = lesser_power (min_size h) (min_size g) a.power b.power;
        sample = sample_joined;
      }

  -- what a join leaves stands for both histories
  pub stands_merged : StandsFor eq new (Merge h g)
  stands_merged =
      by_cases (cases_lt 0 other.total)
      (λ some.
      let j = join.added some in
      record { encloses = encloses_joined j; sample_size = j.sample_size ∙ s.sample_size })
      (λ none.
      let zero_is : other.total ≡ 0 = omega (arith, none) in
      subst (λ (n : FrequentState T). StandsFor eq n (Merge h g)) (sym (join.nothing zero_is)) (record { encloses = encloses_alone zero_is; sample_size = s.sample_size }))
