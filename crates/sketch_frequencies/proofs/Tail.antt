-- A step keeps the tail budget.
use Rattle.std.proofs.Common.{◌≡◌, ℕ, ◌+◌, ◌-◌, ◌*◌, ◌/◌, ◌≤◌, Bool, cond, List, length, ap, arith, IsPermutation}
use Rattle.std.proofs.Math.Nat.{mul-le-mul_left}
use Rattle.std.specs.Cmp.{IsEquivalence}
use Rattle.std.specs.List.{list_any}
use Rattle.std.proofs.lemmas.Bool.{cases_lt}
use Rattle.std.proofs.lemmas.List.Sorted.{sum_by-IsPermutation}
use Rattle.counter_table.specs.Tables.{put, sum_outside, purged}
use Rattle.sketch_frequencies.specs.History.{FrequentHistory, weight_outside, budget_size}
use Rattle.sketch_frequencies.specs.History.FrequentHistory.{Update}
use Rattle.sketch_frequencies.specs.State.{FrequentState, IsState, capacity}
use Rattle.sketch_frequencies.specs.Stands.{StandsFor, KeepsTailBudget}
use Rattle.sketch_frequencies.specs.Steps.{Steps}
use Rattle.sketch_frequencies.proofs.Puts.{sum_outside-put, IsDistinct-put}
use Rattle.sketch_frequencies.proofs.Cases.{by_cases}
use Rattle.sketch_frequencies.proofs.Enclosure.{sample_enough}
use Rattle.sketch_frequencies.proofs.Purges.{purge_takes, heavy, heavy_apart, heavy_outside}

-- the numbers of a purge: d of the H heavy entries pay for m more of the error
pays : (d e m heavies left before old a b : ℕ) → d ≤ heavies → left + heavies * m ≤ before → before ≡ old + a → old + d * e ≤ b → left + d * (e + m) ≤ b + a
pays d e m heavies left before old a b few takes is held = omega (arith, mul-le-mul_left m few)

pub budget_step : {T : Type 0} {eq : T → T → Bool} → IsEquivalence eq → (old new : FrequentState T) (x : T) (w : ℕ) → IsState eq old → Steps eq old x w new → (n : ℕ) → n ≤ old.sample_size / 2 → (set : List T) → length set ≤ n → (b : ℕ) → sum_outside eq set old.counters + (n - length set) * old.error ≤ b → sum_outside eq set new.counters + (n - length set) * new.error ≤ b + cond (list_any (eq x) set) 0 w
budget_step {T} {eq} laws old new x w ok step n half set short b held =
    let c1 = put eq old.counters x w in
    let share : T × ℕ → ℕ = λ e. cond (list_any (eq e.0) set) 0 e.1 in
    let added = sum_outside-put laws set old.counters x w in
    let d = n - length set in
    let kept : IsPermutation c1 new.counters → new.error ≡ old.error → sum_outside eq set new.counters + d * new.error ≤ b + cond (list_any (eq x) set) 0 w =
    λ p e. omega (arith, sum_by-IsPermutation share c1 new.counters p, added, ap (λ n. d * n) e, held) in
    by_cases (cases_lt (capacity old.size) (length c1))
    (λ over. by_cases (cases_lt old.size old.max_size)
    (λ below. let k = step.doubled over below in kept k.counters k.error)
    (λ at.
    let k = step.purge over (omega (arith, ok.within)) in
    let enough : d ≤ heavy_outside eq set k.m c1 = omega (arith, half, short, heavy old.sample_size k.m c1 k.middle, heavy_apart laws set k.m c1 (IsDistinct-put laws old.counters x w ok.distinct)) in
    let paid = pays d old.error k.m (heavy_outside eq set k.m c1) (sum_outside eq set (purged k.m c1)) (sum_outside eq set c1) (sum_outside eq set old.counters) (cond (list_any (eq x) set) 0 w) b enough (purge_takes eq set k.m c1) added held in
    omega (arith, sum_by-IsPermutation share (purged k.m c1) new.counters k.left.counters, ap (λ n. d * n) k.left.error, paid)))
    (λ room. let k = step.kept room in kept k.counters k.error)

pub budget_after : {T : Type 0} {eq : T → T → Bool} → IsEquivalence eq → (old new : FrequentState T) (x : T) (w : ℕ) → IsState eq old → Steps eq old x w new → (h : FrequentHistory T) → StandsFor eq old h → KeepsTailBudget eq old h → KeepsTailBudget eq new (Update h x w)
budget_after laws old new x w ok step h s keeps = λ set short.
    budget_step laws old new x w ok step (budget_size h) (omega (arith, sample_enough old h s)) set short (weight_outside _ set h) (keeps set short)
