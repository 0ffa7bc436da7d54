-- A merge, counter by counter.
use Rattle.std.proofs.Common.{◌≡◌, ℕ, ◌+◌, ◌<◌, ◌≤◌, Bool, List, [], ◌∷◌, ◌++◌, refl, ap, sym, ◌∙◌, subst, arith, IsPermutation, append_assoc}
use Rattle.std.specs.Cmp.{IsEquivalence}
use Rattle.std.specs.List.{All, AllZip}
use Rattle.std.proofs.lemmas.List.{append-nil}
use Rattle.std.proofs.lemmas.List.Elements.{AllZip-push, All-head, All-tail}
use Rattle.std.proofs.lemmas.List.Sums.{sum_by-append, sum_by-cons}
use Rattle.std.proofs.lemmas.List.Sorted.{IsPermutation-refl, All-permutation, sum_by-IsPermutation}
use Rattle.counter_table.specs.Tables.{IsSameEntry, sum_of}
use Rattle.sketch_frequencies.specs.History.{FrequentHistory}
use Rattle.sketch_frequencies.specs.History.FrequentHistory.{Merge}
use Rattle.sketch_frequencies.specs.State.{FrequentState, IsState}
use Rattle.sketch_frequencies.specs.Stands.{StandsFor, KeepsTailBudget}
use Rattle.sketch_frequencies.specs.Steps.{StepsEqual, StepsAlong, AddsAll, JoinsEqual, IsSameState}
use Rattle.sketch_frequencies.specs.Growth.{AddsCounters}
use Rattle.sketch_frequencies.proofs.SameStates.{same_state_refl, state_alike, stands_alike, budget_alike}
use Rattle.sketch_frequencies.proofs.Joins.{steps_more, stands_merged, budget_merged}
use Rattle.sketch_frequencies.proofs.SameMaps.{same_sum}

-- the counters given so far were added to `old`, with items equal to theirs
pub record AddedSoFar {T : Type 0} (eq : T → T → Bool) (old other : FrequentState T) (given rest : List (T × ℕ)) (now : FrequentState T) : Type 0 where
  pub whole : IsPermutation other.counters (given ++ rest)
  pub done : List (T × ℕ)
  pub same : AllZip (IsSameEntry eq) given done
  pub steps : StepsAlong eq old done now
  pub total : now.total ≡ old.total + sum_of given

module _ {T : Type 0} {eq : T → T → Bool} (laws : IsEquivalence eq) where
  -- none yet
  pub added_none : (old other : FrequentState T) (order : List (T × ℕ)) → IsPermutation other.counters order → AddedSoFar eq old other [] order old
  added_none old other order p = record { whole = p; done = []; same = tt; steps = refl; total = omega arith }

  all_middle : (Q : T × ℕ → Type 0) (xs : List (T × ℕ)) (e : T × ℕ) (ys : List (T × ℕ)) → All Q (xs ++ e ∷ ys) → Q e
  all_middle Q [] e ys all = All-head Q e ys all
  all_middle Q (x ∷ xs) e ys all = all_middle Q xs e ys (All-tail Q x (xs ++ e ∷ ys) all)

  -- the next counter is above 0, and fits where all do
  pub next_positive : (other : FrequentState T) (given rest rest' : List (T × ℕ)) (e : T × ℕ) → IsState eq other → IsPermutation other.counters (given ++ rest) → rest ≡ e ∷ rest' → 0 < e.1
  next_positive other given rest rest' e ok p is =
      let Q : T × ℕ → Type 0 = λ e. 0 < e.1 in
      all_middle Q given e rest' (subst (λ l. All Q (given ++ l)) is (All-permutation Q other.counters (given ++ rest) p ok.positive))

  pub next_fits : (old other now : FrequentState T) (given rest rest' : List (T × ℕ)) (e : T × ℕ) → IsState eq other → AddedSoFar eq old other given rest now → rest ≡ e ∷ rest' → now.total + e.1 ≤ old.total + other.total
  next_fits old other now given rest rest' e ok so_far is =
      let num : T × ℕ → ℕ = λ e. e.1 in
      omega (arith, so_far.total, sum_by-IsPermutation num other.counters (given ++ rest) so_far.whole, sum_by-append num given rest, ap (λ l. sum_of l) is, sum_by-cons num e rest', ok.sum)

  -- one more
  pub added_more : (old other now new : FrequentState T) (given rest rest' : List (T × ℕ)) (e : T × ℕ) → AddedSoFar eq old other given rest now → rest ≡ e ∷ rest' → StepsEqual eq now e.0 e.1 new → AddedSoFar eq old other (given ++ e ∷ []) rest' new
  added_more old other now new given rest rest' e so_far is step =
      let num : T × ℕ → ℕ = λ e. e.1 in
      record {
        whole = rw (append_assoc given (e ∷ []) rest') (subst (λ l. IsPermutation other.counters (given ++ l)) is so_far.whole);
        done = so_far.done ++ (step.item, e.1) ∷ [];
        same = AllZip-push (IsSameEntry eq) given so_far.done e (step.item, e.1) so_far.same (step.named, refl);
        steps = steps_more eq old now new so_far.done (step.item, e.1) so_far.steps step.step;
        total = omega (arith, step.step.total, so_far.total, sum_by-append num given (e ∷ []), sum_by-cons num e []);
      }

  -- all of them
  pub added_all : (old other now : FrequentState T) (given rest : List (T × ℕ)) → AddedSoFar eq old other given rest now → rest ≡ [] → AddsCounters eq old other.counters now
  added_all old other now given rest so_far is =
      let whole = subst (λ l. IsPermutation other.counters l) (ap (λ l. given ++ l) is ∙ append-nil given) so_far.whole in
      record { order = so_far.done; same = record { order = given; whole = whole; same = so_far.same }; steps = so_far.steps }

  -- what a run of steps does to the numbers
  steps_total : (old new : FrequentState T) (ps : List (T × ℕ)) → StepsAlong eq old ps new → (new.total ≡ old.total + sum_of ps) × (new.max_size ≡ old.max_size) × (new.sample_size ≡ old.sample_size) × (new.key ≡ old.key)
  steps_total old new [] is = subst (λ (s : FrequentState T). (s.total ≡ old.total + 0) × (s.max_size ≡ old.max_size) × (s.sample_size ≡ old.sample_size) × (s.key ≡ old.key)) (sym is) (omega arith, refl, refl, refl)
  steps_total old new (p ∷ ps) run =
      let num : T × ℕ → ℕ = λ p. p.1 in
      let rest = steps_total run.0 new ps run.2 in
      (omega (arith, rest.0, run.1.total, sum_by-cons num p ps), rest.1 ∙ run.1.max_size, rest.2 ∙ run.1.sample_size, rest.3 ∙ run.1.key)

  -- the other's error fits behind its counters
  pub settle_fits : (old other own last : FrequentState T) → IsState eq other → IsState eq last → IsSameState eq old own → AddsCounters eq own other.counters last → sum_of last.counters + last.error + other.error ≤ old.total + other.total
  settle_fits old other own last other_ok last_ok same adds = omega (arith, last_ok.sum, (steps_total own last adds.order adds.steps).0, same_sum laws other.counters adds.order adds.same, other_ok.sum, same.holds.total)

  -- so it is a join with a sketch that is the same as the other
  pub joins_equal : (old other own last new : FrequentState T) → 0 < other.total → IsSameState eq old own → AddsCounters eq own other.counters last → new ≡ record last { error = last.error + other.error; total = old.total + other.total } → JoinsEqual eq old other new
  joins_equal old other own last new some same adds is =
      let more : FrequentState T = record other { counters = adds.order } in
      let left : FrequentState T = record last { error = last.error + other.error; total = old.total + other.total } in
      let added : AddsAll eq own more left = record {
        order = adds.order;
        whole = IsPermutation-refl adds.order;
        last = last;
        steps = adds.steps;
        left = record { counters = IsPermutation-refl last.counters; error = refl; size = refl; purges = refl };
        total = omega (arith, same.holds.total);
        max_size = (steps_total own last adds.order adds.steps).1;
        sample_size = (steps_total own last adds.order adds.steps).2;
        key = (steps_total own last adds.order adds.steps).3;
      } in
      record {
        own = own;
        same_own = same;
        more = more;
        same_more = record { holds = record { counters = adds.same; error = refl; total = refl; max_size = refl; size = refl }; sample_size = refl; key = refl; purges = refl };
        join = record { nothing = λ none. absurd (omega (arith, none, some)); added = λ _. subst (λ s. AddsAll eq own more s) (sym is) added };
      }

  -- an other into which nothing was fed
  pub joins_nothing : (old other : FrequentState T) → other.total ≡ 0 → JoinsEqual eq old other old
  joins_nothing old other none = record {
    own = old;
    same_own = same_state_refl laws old;
    more = other;
    same_more = same_state_refl laws other;
    join = record { nothing = λ _. refl; added = λ some. absurd (omega (arith, none, some)) };
  }

  -- what such a join keeps
  pub stands_joins_equal : (old other new : FrequentState T) → IsState eq old → IsState eq other → JoinsEqual eq old other new → (h g : FrequentHistory T) → StandsFor eq old h → StandsFor eq other g → StandsFor eq new (Merge h g)
  stands_joins_equal old other new ok other_ok j h g s t =
      stands_merged laws j.own j.more new (state_alike laws old j.own ok j.same_own) (state_alike laws other j.more other_ok j.same_more) j.join h g (stands_alike laws old j.own ok j.same_own h s) (stands_alike laws other j.more other_ok j.same_more g t)

  pub budget_joins_equal : (old other new : FrequentState T) → IsState eq old → IsState eq other → JoinsEqual eq old other new → (h g : FrequentHistory T) → StandsFor eq old h → StandsFor eq other g → KeepsTailBudget eq old h → KeepsTailBudget eq other g → KeepsTailBudget eq new (Merge h g)
  budget_joins_equal old other new ok other_ok j h g s t keeps other_keeps =
      budget_merged laws j.own j.more new (state_alike laws old j.own ok j.same_own) (state_alike laws other j.more other_ok j.same_more) j.join h g (stands_alike laws old j.own ok j.same_own h s) (stands_alike laws other j.more other_ok j.same_more g t) (budget_alike laws old j.own j.same_own.holds h keeps) (budget_alike laws other j.more j.same_more.holds g other_keeps)
