-- Sketches that are the same up to which of equal items they hold, and histories of equal items.
use Rattle.std.proofs.Common.{◌≡◌, ℕ, ◌<◌, Bool, true, cond, List, [], ◌∷◌, refl, ap, sym, ◌∙◌, subst, arith}
use Rattle.std.specs.Prelude.{IsTrue}
use Rattle.std.specs.Int.{is_power_of_two}
use Rattle.std.specs.Cmp.{IsEquivalence}
use Rattle.std.specs.List.{AllZip}
use Rattle.std.proofs.lemmas.List.Sorted.{IsPermutation-refl}
use Rattle.counter_table.specs.Tables.{IsSameEntry, IsSameMap}
use Rattle.sketch_frequencies.specs.History.{FrequentHistory}
use Rattle.sketch_frequencies.specs.History.FrequentHistory.{Update}
use Rattle.sketch_frequencies.specs.State.{FrequentState, IsState, IsSampleSize}
use Rattle.sketch_frequencies.specs.Stands.{Encloses, StandsFor, KeepsTailBudget, HasFewItems}
use Rattle.sketch_frequencies.specs.Steps.{StepsEqual, HoldsSame, IsSameState}
use Rattle.sketch_frequencies.proofs.Enclosure.{stands_after}
use Rattle.sketch_frequencies.proofs.Tail.{budget_after}
use Rattle.sketch_frequencies.proofs.Puts.{same_set_test}
use Rattle.sketch_frequencies.proofs.SameMaps.{same_length, same_count, same_distinct, same_sum, same_sum_outside, same_positive}

module _ {T : Type 0} {eq : T → T → Bool} (laws : IsEquivalence eq) where
  zip_refl : (es : List (T × ℕ)) → AllZip (IsSameEntry eq) es es
  zip_refl [] = tt
  zip_refl (e ∷ es) = ((laws.refl e.0, refl), zip_refl es)

  pub same_map_refl : (es : List (T × ℕ)) → IsSameMap eq es es
  same_map_refl es = record { order = es; whole = IsPermutation-refl es; same = zip_refl es }

  pub same_state_refl : (s : FrequentState T) → IsSameState eq s s
  same_state_refl s = record {
    holds = record { counters = same_map_refl s.counters; error = refl; total = refl; max_size = refl; size = refl };
    sample_size = refl;
    key = refl;
    purges = refl;
  }

  -- the same sketch is a state
  pub state_alike : (s t : FrequentState T) → IsState eq s → IsSameState eq s t → IsState eq t
  state_alike s t ok alike =
      let same = alike.holds in
      let sample : IsSampleSize s.max_size t.sample_size = subst (λ (n : ℕ). IsSampleSize s.max_size n) (sym alike.sample_size) ok.sample in
      record {
        distinct = same_distinct laws s.counters t.counters ok.distinct same.counters;
        positive = same_positive laws s.counters t.counters same.counters ok.positive;
        few = omega (arith, same_length laws s.counters t.counters same.counters, ok.few, same.size);
        sum = omega (arith, same_sum laws s.counters t.counters same.counters, ok.sum, same.error, same.total);
        least = rw same.size ok.least;
        within = rw (same.size, same.max_size) ok.within;
        greatest = rw same.max_size ok.greatest;
        size_power = subst (λ n. IsTrue (is_power_of_two n)) (sym same.size) ok.size_power;
        max_size_power = subst (λ n. IsTrue (is_power_of_two n)) (sym same.max_size) ok.max_size_power;
        empty = λ none. same.size ∙ ok.empty (sym same.total ∙ none);
        sample = subst (λ (n : ℕ). IsSampleSize n t.sample_size) (sym same.max_size) sample;
      }

  -- it encloses the same histories
  pub encloses_alike : (s t : FrequentState T) → IsState eq s → HoldsSame eq s t → (h : FrequentHistory T) → Encloses eq s h → Encloses eq t h
  encloses_alike s t ok same h stands =
      let count = λ (y : T). same_count laws s.counters t.counters y ok.distinct same.counters in
      record {
        max_size = same.max_size ∙ stands.max_size;
        total = same.total ∙ stands.total;
        at_least = λ y. omega (arith, count y, stands.at_least y);
        at_most = λ y. omega (arith, count y, stands.at_most y, same.error);
        exact = λ few. same.error ∙ stands.exact few;
        least = stands.least;
        power = stands.power;
        sample = stands.sample;
      }

  -- and stands for them
  pub stands_alike : (s t : FrequentState T) → IsState eq s → IsSameState eq s t → (h : FrequentHistory T) → StandsFor eq s h → StandsFor eq t h
  stands_alike s t ok same h stands = record {
    encloses = encloses_alike s t ok same.holds h stands.encloses;
    sample_size = same.sample_size ∙ stands.sample_size;
  }

  -- and keeps the same budgets
  pub budget_alike : (s t : FrequentState T) → HoldsSame eq s t → (h : FrequentHistory T) → KeepsTailBudget eq s h → KeepsTailBudget eq t h
  budget_alike s t same h keeps = λ set short. rw (same_sum_outside laws set s.counters t.counters same.counters, same.error) (keeps set short)

  -- an update of an equal item is the same update
  weight_alike : (x y z : T) (w : ℕ) → eq x y ≡ true → cond (eq y z) w 0 ≡ cond (eq x z) w 0
  weight_alike x y z w same = ap (λ b. cond b w 0) (sym (laws.congr x y z same))

  encloses_equal : (s : FrequentState T) (h : FrequentHistory T) (x y : T) (w : ℕ) → eq x y ≡ true → Encloses eq s (Update h y w) → Encloses eq s (Update h x w)
  encloses_equal s h x y w same stands = record {
    max_size = stands.max_size;
    total = stands.total;
    at_least = λ z. omega (arith, stands.at_least z, weight_alike x y z w same);
    at_most = λ z. omega (arith, stands.at_most z, weight_alike x y z w same);
    exact = λ few.
        let alike : HasFewItems eq (Update h y w) = record { items = few.items; fit = few.fit; cover = λ z some. few.cover z (omega (arith, some, weight_alike x y z w same)) } in
        stands.exact alike;
    least = stands.least;
    power = stands.power;
    sample = stands.sample;
  }

  stands_equal : (s : FrequentState T) (h : FrequentHistory T) (x y : T) (w : ℕ) → eq x y ≡ true → StandsFor eq s (Update h y w) → StandsFor eq s (Update h x w)
  stands_equal s h x y w same stands = record {
    encloses = encloses_equal s h x y w same stands.encloses;
    sample_size = stands.sample_size;
  }

  budget_equal : (s : FrequentState T) (h : FrequentHistory T) (x y : T) (w : ℕ) → eq x y ≡ true → KeepsTailBudget eq s (Update h y w) → KeepsTailBudget eq s (Update h x w)
  budget_equal s h x y w same keeps = λ set short. omega (arith, keeps set short, ap (λ b. cond b 0 w) (same_set_test laws set x y same))

  -- so a step of an equal item is one of the item
  pub stands_step : (old new : FrequentState T) (x : T) (w : ℕ) → 0 < w → IsState eq old → StepsEqual eq old x w new → (h : FrequentHistory T) → StandsFor eq old h → StandsFor eq new (Update h x w)
  stands_step old new x w pos ok step h s = stands_equal new h x step.item w step.named (stands_after laws old new step.item w pos ok step.step h s)

  pub budget_step_equal : (old new : FrequentState T) (x : T) (w : ℕ) → IsState eq old → StepsEqual eq old x w new → (h : FrequentHistory T) → StandsFor eq old h → KeepsTailBudget eq old h → KeepsTailBudget eq new (Update h x w)
  budget_step_equal old new x w ok step h s keeps = budget_equal new h x step.item w step.named (budget_after laws old new step.item w ok step.step h s keeps)
