-- The tail budget with no item set aside bounds the error by the weight of all.
use Rattle.std.proofs.Common.{◌≡◌, ℕ, ◌+◌, ◌-◌, ◌*◌, ◌/◌, ◌<◌, ◌≤◌, Bool, [], refl, ap, subst, arith}
use Rattle.std.specs.Prelude.{IsTrue}
use Rattle.std.specs.Int.{is_power_of_two}
use Rattle.counter_table.specs.Tables.{sum_outside}
use Rattle.sketch_frequencies.specs.History.{FrequentHistory, total_weight, weight_outside, min_size, min_sample, budget_size, HasUsualSamples}
use Rattle.sketch_frequencies.specs.History.FrequentHistory.{New, Update, Merge, Reset, Restored}
use Rattle.sketch_frequencies.specs.State.{FrequentState}
use Rattle.sketch_frequencies.specs.Stands.{Encloses, KeepsTailBudget}
use Rattle.sketch_frequencies.proofs.Powers.{power_twice, eight_is_power, doubled_fits}
use Rattle.sketch_frequencies.proofs.SampleSizes.{eighths, usual_min}

-- with no item set aside the weight outside is the weight of all
outside_none : {T : Type 0} (eq : T → T → Bool) (h : FrequentHistory T) → weight_outside eq [] h ≡ total_weight h
outside_none eq (New m n) = refl
outside_none eq (Update h x w) = ap (λ n. n + w) (outside_none eq h)
outside_none eq (Merge h g) = omega (arith, outside_none eq h, outside_none eq g)
outside_none eq (Reset h) = refl
outside_none eq (Restored h) = outside_none eq h

budget_of_all : {T : Type 0} (eq : T → T → Bool) (s : FrequentState T) (h : FrequentHistory T) → KeepsTailBudget eq s h → budget_size h * s.error ≤ total_weight h
budget_of_all eq s h keeps =
    let held : sum_outside eq [] s.counters + (budget_size h - 0) * s.error ≤ weight_outside eq [] h = keeps [] (omega arith) in
    let whole : budget_size h - 0 ≡ budget_size h = omega arith in
    omega (arith, held, ap (λ n. n * s.error) whole, outside_none eq h)

big_power : IsTrue (is_power_of_two 1024)
big_power = power_twice 512 (power_twice 256 (power_twice 128 (power_twice 64 (power_twice 32 (power_twice 16 (power_twice 8 eight_is_power))))))

-- by the least sample
pub error_sampled : {T : Type 0} (eq : T → T → Bool) (s : FrequentState T) (h : FrequentHistory T) → Encloses eq s h → KeepsTailBudget eq s h → min_sample h * s.error ≤ 2 * total_weight h
error_sampled eq s h encloses keeps =
    let k = min_sample h / 2 in
    let e : min_sample h ≡ 2 * k = omega (arith, encloses.sample.even) in
    let all : k * s.error ≤ total_weight h = budget_of_all eq s h keeps in
    rw e (omega (arith, all))

-- up to 1024
pub error_small : {T : Type 0} (eq : T → T → Bool) (s : FrequentState T) (h : FrequentHistory T) → Encloses eq s h → KeepsTailBudget eq s h → HasUsualSamples h → min_size h ≤ 1024 → 3 * min_size h * s.error ≤ 8 * total_weight h
error_small eq s h encloses keeps usual small =
    let k = min_size h / 8 in
    let e : min_size h ≡ 8 * k = eighths (min_size h) encloses.power encloses.least in
    let b : budget_size h ≡ 3 * k = omega (arith, e, small, usual_min h usual) in
    let all : 3 * k * s.error ≤ total_weight h = subst (λ (n : ℕ). n * s.error ≤ total_weight h) b (budget_of_all eq s h keeps) in
    rw e (omega (arith, all))

-- above
pub error_large : {T : Type 0} (eq : T → T → Bool) (s : FrequentState T) (h : FrequentHistory T) → Encloses eq s h → KeepsTailBudget eq s h → HasUsualSamples h → 1024 < min_size h → 512 * s.error ≤ total_weight h
error_large eq s h encloses keeps usual large =
    let twice = doubled_fits 1024 (min_size h) big_power encloses.power large in
    let b : budget_size h ≡ 512 = omega (arith, twice, usual_min h usual) in
    subst (λ (n : ℕ). n * s.error ≤ total_weight h) b (budget_of_all eq s h keeps)
