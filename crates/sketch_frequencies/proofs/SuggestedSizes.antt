-- The least greatest size whose tail budget sets so many items aside.
use Rattle.std.proofs.Common.{◌≡◌, ℕ, ◌*◌, ◌/◌, ◌<◌, ◌≤◌, ◌^◌, Bool, ltb, None, false, true, sym, subst, refl, arith}
use Rattle.std.specs.Prelude.{IsTrue, max}
use Rattle.std.specs.Int.{is_power_of_two, IsPowerOfTwo, div_ceil}
use Rattle.std.proofs.lemmas.Bool.{cases_lt, le-ltb}
use Rattle.std.proofs.lemmas.Nat.{mul-le}
use Rattle.std.proofs.lemmas.Grind.{div_ceil_times}
use Rattle.sketch_frequencies.specs.History.{FrequentHistory, total_weight, min_size, min_sample, budget_size, HasUsualSamples}
use Rattle.sketch_frequencies.specs.Sizes.{size_fault}
use Rattle.sketch_frequencies.specs.State.{FrequentState}
use Rattle.sketch_frequencies.specs.Stands.{Encloses, KeepsTailBudget}
use Rattle.sketch_frequencies.specs.SuggestedSizes.{usual_budget}
use Rattle.counter_table.proofs.ArithmeticPowers.{power_positive}
use Rattle.sketch_frequencies.proofs.Bounds.{error_sampled}
use Rattle.sketch_frequencies.proofs.Cases.{by_cases}
use Rattle.sketch_frequencies.proofs.Powers.{halves, power_twice, doubled_fits, power_is}
use Rattle.sketch_frequencies.proofs.SampleSizes.{size_passes, usual_min}

-- eight times a power of two that is not too large is a greatest size
pub size_allowed : (p : ℕ) → IsPowerOfTwo p → p ≤ 1024 → size_fault (8 * p) ≡ None
size_allowed p power few =
    let one : IsTrue (is_power_of_two p) = subst (λ (n : ℕ). IsTrue (is_power_of_two n)) (sym power.1) (power_is power.0) in
    let some : 0 < p = power_positive p one in
    let all : IsTrue (is_power_of_two (2 * (2 * (2 * p)))) = power_twice (2 * (2 * p)) (power_twice (2 * p) (power_twice p one)) in
    let e : 2 * (2 * (2 * p)) ≡ 8 * p = omega arith in
    let eight : is_power_of_two (8 * p) ≡ true = subst (λ (n : ℕ). IsTrue (is_power_of_two n)) e all in
    let least : ltb (8 * p) 8 ≡ false = le-ltb (8 * p) 8 (omega (arith, some)) in
    let greatest : ltb (2 ^ 30) (8 * p) ≡ false = le-ltb (2 ^ 30) (8 * p) (omega (arith, few)) in
    rw (eight, least, greatest) refl

-- no size below it sets n items aside, where it is the least power of two that is a third of n or more, times eight
pub size_min : (n c p m : ℕ) → c ≡ div_ceil n 3 → IsPowerOfTwo p → p / 2 < max 1 c → size_fault m ≡ None → n ≤ usual_budget m → 8 * p ≤ m
size_min n c p m e power near none enough =
    let one : IsTrue (is_power_of_two p) = subst (λ (n : ℕ). IsTrue (is_power_of_two n)) (sym power.1) (power_is power.0) in
    let passes : IsTrue (is_power_of_two m) × (8 ≤ m) × (m ≤ 2 ^ 30) = size_passes m none in
    let first = halves m passes.0 (omega (arith, passes.1)) in
    let second = halves (m / 2) first.1 (omega (arith, passes.1)) in
    let third = halves (m / 2 / 2) second.1 (omega (arith, passes.1)) in
    let eighth : m ≡ 8 * (m / 2 / 2 / 2) = omega (arith, first.0, second.0, third.0) in
    by_cases (cases_lt (m / 2 / 2 / 2) p)
    (λ less.
    let twice : 2 * (m / 2 / 2 / 2) ≤ p = doubled_fits (m / 2 / 2 / 2) p third.1 one less in
    absurd (omega (arith, twice, near, e, enough, eighth, passes.1, (div_ceil_times n 3 (omega arith)).1)))
    (λ done. omega (arith, done, eighth))

-- the error, where so many items may be set aside
pub error_by_budget : {T : Type 0} (eq : T → T → Bool) (s : FrequentState T) (h : FrequentHistory T) (n : ℕ) → Encloses eq s h → KeepsTailBudget eq s h → n ≤ budget_size h → n * s.error ≤ total_weight h
error_by_budget eq s h n encloses keeps within =
    let sampled : min_sample h * s.error ≤ 2 * total_weight h = error_sampled eq s h encloses keeps in
    let more : 2 * n * s.error ≤ min_sample h * s.error = mul-le (2 * n) s.error (min_sample h) s.error (omega (arith, within)) (omega arith) in
    omega (arith, sampled, more)

-- and by the sizes
pub error_by_size : {T : Type 0} (eq : T → T → Bool) (s : FrequentState T) (h : FrequentHistory T) (m n : ℕ) → Encloses eq s h → KeepsTailBudget eq s h → HasUsualSamples h → m ≤ min_size h → n ≤ usual_budget m → n * s.error ≤ total_weight h
error_by_size eq s h m n encloses keeps usual large within =
    error_by_budget eq s h n encloses keeps (omega (arith, usual_min h usual, large, within))
