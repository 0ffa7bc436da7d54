-- How many counters a purge may sample.
use Rattle.std.proofs.Common.{◌≡◌, ℕ, ◌*◌, ◌/◌, ◌≤◌, ◌^◌, Bool, true, false, leb, ltb, cond, not, Option, None, Some, refl, arith}
use Rattle.std.specs.Prelude.{IsTrue}
use Rattle.std.specs.Int.{is_power_of_two}
use Rattle.std.proofs.lemmas.Bool.{le-leb, ltb-false}
use Rattle.sketch_base.specs.Checks.{or_else}
use Rattle.sketch_base.specs.declared.fault.Fault.{Fault}
use Rattle.sketch_frequencies.specs.History.{FrequentHistory, own_size, min_size, own_sample, min_sample, HasUsualSamples}
use Rattle.sketch_frequencies.specs.History.FrequentHistory.{New, Update, Merge, Reset, Restored}
use Rattle.sketch_frequencies.specs.Sizes.{size_fault, sample_fault, sizes_fault}
use Rattle.sketch_frequencies.specs.State.{IsSampleSize, max_sample_size}
use Rattle.sketch_frequencies.proofs.Powers.{halves}

-- a power of two from 8 on is a multiple of 8
pub eighths : (m : ℕ) → IsTrue (is_power_of_two m) → 8 ≤ m → m ≡ 8 * (m / 8)
eighths m power least =
    let a = halves m power (omega (arith, least)) in
    let b = halves (m / 2) a.1 (omega (arith, least)) in
    let c = halves (m / 2 / 2) b.1 (omega (arith, least)) in
    omega (arith, a.0, b.0, c.0)

-- the most that a purge may sample, it may
pub usual_sample : (m : ℕ) → 8 ≤ m → IsTrue (is_power_of_two m) → IsSampleSize m (max_sample_size m)
usual_sample m least power =
    let e = eighths m power least in
    record { least = omega (arith, least); even = omega (arith, e); greatest = omega arith }

-- what may be sampled passes the test
sample_passes : (m n : ℕ) → IsSampleSize m n → sample_fault m n ≡ None
sample_passes m n sample =
    let low : leb 2 n ≡ true = le-leb _ _ sample.least in
    let high : leb n (max_sample_size m) ≡ true = le-leb _ _ sample.greatest in
    rw (low, sample.even, high) refl

-- a size without a fault is one that a sketch may have
passes : (power small large : Bool) (f f' f'' : Fault) → cond (not power) (Some f) (cond small (Some f') (cond large (Some f'') None)) ≡ None → (power ≡ true) × (small ≡ false) × (large ≡ false)
passes true false false f f' f'' e = (refl, refl, refl)
passes true false true f f' f'' e = absurd cc
passes true true large f f' f'' e = absurd cc
passes false small large f f' f'' e = absurd cc

pub size_passes : (m : ℕ) → size_fault m ≡ None → IsTrue (is_power_of_two m) × (8 ≤ m) × (m ≤ 2 ^ 30)
size_passes m none =
    let p = passes (is_power_of_two m) (ltb m 8) (ltb (2 ^ 30) m) _ _ _ none in
    (p.0, ltb-false m 8 p.1, ltb-false (2 ^ 30) m p.2)

or_no_more : (a b : Option Fault) → (a ≡ None → b ≡ None) → or_else a b ≡ a
or_no_more None b h = h refl
or_no_more (Some f) b h = refl

-- so with the usual sample only the greatest size may be wrong
pub usual_fault : (m : ℕ) → sizes_fault m (max_sample_size m) ≡ size_fault m
usual_fault m =
    or_no_more (size_fault m) (sample_fault m (max_sample_size m)) (λ none.
    let p = size_passes m none in
    sample_passes m _ (usual_sample m p.1 p.0))

-- where each new sketch had the sample size of `new`, so has the sketch, and so has the least size
pub usual_own : {T : Type 0} (h : FrequentHistory T) → HasUsualSamples h → own_sample h ≡ max_sample_size (own_size h)
usual_own (New m n) e = e
usual_own (Update h x w) e = usual_own h e
usual_own (Merge h g) e = usual_own h e.0
usual_own (Reset h) e = usual_own h e
usual_own (Restored h) e = refl

pub usual_min : {T : Type 0} (h : FrequentHistory T) → HasUsualSamples h → min_sample h ≡ max_sample_size (min_size h)
usual_min (New m n) e = e
usual_min (Update h x w) e = usual_min h e
usual_min (Merge h g) e = omega (arith, usual_min h e.0, usual_min g e.1)
usual_min (Reset h) e = usual_own h e
usual_min (Restored h) e = usual_min h e
