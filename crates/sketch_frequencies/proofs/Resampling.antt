-- A sketch whose later purges sample another number of counters stands for what it would if it were merged into a new one.
use Rattle.std.proofs.Common.{ℕ, ◌-◌, ◌≤◌, Bool, length, refl, arith}
use Rattle.std.specs.Prelude.{IsTrue}
use Rattle.std.specs.Int.{is_power_of_two}
use Rattle.sketch_frequencies.specs.History.{FrequentHistory, min_size, budget_size}
use Rattle.sketch_frequencies.specs.History.FrequentHistory.{New, Merge}
use Rattle.sketch_frequencies.specs.Stands.{StandsFor, KeepsTailBudget}
use Rattle.sketch_frequencies.specs.State.{FrequentState, IsSampleSize}
use Rattle.sketch_frequencies.proofs.Joins.{less_of_more, few_in_other}
use Rattle.sketch_frequencies.proofs.Powers.{lesser_power}

-- the sketch with this sample size
abbrev pub resampled : {T : Type 0} → FrequentState T → ℕ → FrequentState T
resampled s n = record s { sample_size = n }

module _ {T : Type 0} (eq : T → T → Bool) (s : FrequentState T) (n : ℕ) (h : FrequentHistory T) where
  pub stands_resampled :
      8 ≤ s.max_size → IsTrue (is_power_of_two s.max_size) → IsSampleSize s.max_size n → StandsFor eq s h →
      StandsFor eq (resampled s n) (Merge (New s.max_size n) h)
  stands_resampled large power sample stands =
      let a = stands.encloses in
      record {
        encloses = record {
          max_size = refl;
          total = omega (arith, a.total);
          at_least = λ y. omega (arith, a.at_least y);
          at_most = λ y. omega (arith, a.at_most y);
          exact = λ few. a.exact (few_in_other (New s.max_size n) h few);
          least = omega (arith, a.least, large);
          power = lesser_power s.max_size (min_size h) power a.power;
          sample = record {
            least = omega (arith, sample.least, a.sample.least);
            even = omega (arith, sample.even, a.sample.even);
            greatest = omega (arith, sample.greatest, a.sample.greatest);
          };
        };
        sample_size = refl;
      }

  pub budget_resampled : KeepsTailBudget eq s h → KeepsTailBudget eq (resampled s n) (Merge (New s.max_size n) h)
  budget_resampled keeps = λ set short.
      omega (arith, keeps set (omega (arith, short)), less_of_more (budget_size (Merge (New s.max_size n) h) - length set) (budget_size h - length set) s.error (omega arith))
