-- A sketch into which nothing was fed.
use Rattle.std.proofs.Common.{◌≡◌, ℕ, ◌^◌, ◌≤◌, Bool, refl, sym, subst, arith}
use Rattle.std.proofs.Math.Pow.{pow_mono}
use Rattle.std.specs.Prelude.{IsTrue}
use Rattle.std.specs.Int.{is_power_of_two}
use Rattle.std.specs.List.{IsDistinct}
use Rattle.std.proofs.lemmas.List.Elements.{All-nil}
use Rattle.sketch_frequencies.specs.History.{FrequentHistory, own_size, own_sample, min_size, min_sample, total_weight, true_weight}
use Rattle.sketch_frequencies.specs.History.FrequentHistory.{New, Reset}
use Rattle.sketch_frequencies.specs.Stands.{Encloses, StandsFor, KeepsTailBudget}
use Rattle.sketch_frequencies.specs.State.{FrequentState, IsState, IsSampleSize, empty_state, max_sample_size}
use Rattle.counter_table.specs.declared.table_key.TableKey.{TableKey}
use Rattle.sketch_frequencies.proofs.Powers.{eight_is_power}
use Rattle.sketch_frequencies.proofs.SampleSizes.{usual_sample}

-- it counts the purges that preceded a reset
abbrev pub empty_after : {T : Type 0} → (m n : ℕ) → TableKey → (before : ℕ) → FrequentState T
empty_after m n key before = record (empty_state m n key) { purges = before }

-- it is a state
pub fresh_state : {T : Type 0} (eq : T → T → Bool) (m n : ℕ) (key : TableKey) (before : ℕ) → 8 ≤ m → m ≤ 2 ^ 30 → IsTrue (is_power_of_two m) → IsSampleSize m n → IsState eq (empty_after m n key before)
unfolding IsDistinct
fresh_state eq m n key before least most power sample = record {
  distinct = tt;
  positive = All-nil _;
  few = omega arith;
  sum = omega arith;
  least = omega arith;
  within = least;
  greatest = most;
  size_power = eight_is_power;
  max_size_power = power;
  empty = λ _. refl;
  sample = sample;
}

-- so it is as it is read from an image, with the sample size that `new` gives
pub restored_empty : {T : Type 0} (eq : T → T → Bool) (lg m n : ℕ) (key : TableKey) → 3 ≤ lg → m ≡ 2 ^ lg → m ≤ 2 ^ 30 → IsTrue (is_power_of_two m) → n ≡ max_sample_size m → IsState eq (empty_state m n key)
restored_empty eq lg m n key low value most power usual =
    let least : 2 ^ 3 ≤ 2 ^ lg = pow_mono low in
    let large : 8 ≤ m = omega (arith, least, value) in
    fresh_state eq m n key 0 large most power (subst (λ (k : ℕ). IsSampleSize m k) (sym usual) (usual_sample m large power))

-- it is one of a history in which nothing weighs anything
nothing_weighs : {T : Type 0} (eq : T → T → Bool) (m n : ℕ) (key : TableKey) (before : ℕ) (h : FrequentHistory T) → m ≡ own_size h → total_weight h ≡ 0 → ((x : T) → true_weight eq h x ≡ 0) → 8 ≤ min_size h → IsTrue (is_power_of_two (min_size h)) → IsSampleSize (min_size h) (min_sample h) → Encloses eq (empty_after m n key before) h
nothing_weighs eq m n key before h own none none_of least power sample = record {
  max_size = own;
  total = sym none;
  at_least = λ _. omega arith;
  at_most = λ x. omega (arith, none_of x);
  exact = λ _. refl;
  least = least;
  power = power;
  sample = sample;
}

-- it stands for nothing fed
pub new_stands : {T : Type 0} (eq : T → T → Bool) (m n : ℕ) (key : TableKey) (before : ℕ) → 8 ≤ m → IsTrue (is_power_of_two m) → IsSampleSize m n → StandsFor eq (empty_after m n key before) (New m n)
new_stands eq m n key before least power sample = record {
  encloses = nothing_weighs eq m n key before (New m n) refl refl (λ _. refl) least power sample;
  sample_size = refl;
}

pub new_budget : {T : Type 0} (eq : T → T → Bool) (m n : ℕ) (key : TableKey) (before : ℕ) → KeepsTailBudget eq (empty_after m n key before) (New m n)
new_budget eq m n key before = λ set short. omega arith

-- after a reset it stands for what was reset, and keeps the tail budget
pub reset_stands : {T : Type 0} (eq : T → T → Bool) (m n : ℕ) (key : TableKey) (before : ℕ) → 8 ≤ m → IsTrue (is_power_of_two m) → IsSampleSize m n → (h : FrequentHistory T) → m ≡ own_size h → n ≡ own_sample h → StandsFor eq (empty_after m n key before) (Reset h)
reset_stands eq m n key before least power sample h own own_n =
    let so_many : IsSampleSize m (own_sample h) = subst (λ (k : ℕ). IsSampleSize m k) own_n sample in
    record {
      encloses = nothing_weighs eq m n key before (Reset h) own refl (λ _. refl) (omega (arith, least, own)) (subst (λ (k : ℕ). IsTrue (is_power_of_two k)) own power) (subst (λ (k : ℕ). IsSampleSize k (own_sample h)) own so_many);
      sample_size = own_n;
    }

pub reset_budget : {T : Type 0} (eq : T → T → Bool) (m n : ℕ) (key : TableKey) (before : ℕ) (h : FrequentHistory T) → KeepsTailBudget eq (empty_after m n key before) (Reset h)
reset_budget eq m n key before h = λ set short. omega arith
