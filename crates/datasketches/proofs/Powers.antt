-- Shifts by the exponent of a power of two.
use Rattle.std.proofs.Common.{◌≡◌, ℕ, ◌^◌, ◌<◌, ◌≤◌, ⊎_elim, arith}
use Rattle.std.proofs.Math.Pow.{pow_mono}
use Rattle.std.proofs.lemmas.Bool.{cases_lt}

-- a shift that gives at most 2 ^ 30
pub shift_fits : (lg size : ℕ) → 2 ^ lg ≡ size → size ≤ 2 ^ 30 → lg < 64
shift_fits lg size e h = ⊎_elim (λ less. less) (λ more. omega (arith, e, h, pow_mono more)) (cases_lt lg 64)
