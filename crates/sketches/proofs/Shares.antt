-- The parts of a whole that an error may be.
use Rattle.std.proofs.Common.{◌≡◌, ⊎_elim, ℕ, ◌+◌, ◌*◌, ◌<◌, ◌≤◌, ◌∙◌, ap, arith}
use Rattle.std.proofs.Math.Nat.{mul-le-mul_left, mul_comm, mul_left_comm}
use Rattle.std.proofs.lemmas.Bool.{cases_lt}
use Rattle.std.proofs.lemmas.Grind.{div_ceil_times}
use Rattle.std.specs.Int.{div_ceil}

-- the parts, rounded up, make the whole
enough_parts : (whole share parts : ℕ) → 0 < share → parts ≡ div_ceil whole share → whole ≤ share * parts
enough_parts whole share parts some is = omega (arith, (div_ceil_times whole share some).0, ap (λ (n : ℕ). n * share) is, mul_comm parts share)

pub within_share : (whole share parts budget error total : ℕ) → 0 < share → parts ≡ div_ceil whole share → parts ≤ budget → budget * error ≤ total → whole * error ≤ share * total
within_share whole share parts budget error total some is enough bound =
    let first : whole ≤ share * budget = omega (arith, enough_parts whole share parts some is, mul-le-mul_left share enough) in
    let all : error * whole ≤ error * (share * budget) = mul-le-mul_left error first in
    let order : error * (share * budget) ≡ share * (budget * error) = mul_left_comm error share budget ∙ ap (λ (n : ℕ). share * n) (mul_comm error budget) in
    omega (arith, all, order, mul-le-mul_left share bound, mul_comm whole error)

-- fewer parts do not
pub few_parts : (whole share parts budget : ℕ) → 0 < share → parts ≡ div_ceil whole share → budget < parts → share * budget < whole
few_parts whole share parts budget some is less =
    let next : share * (budget + 1) ≤ share * parts = mul-le-mul_left share (let l : budget + 1 ≤ parts = omega (arith, less) in l) in
    omega (arith, next, (div_ceil_times whole share some).1, ap (λ (n : ℕ). n * share) is, mul_comm parts share)

pub parts_within : (whole share parts budget : ℕ) → 0 < share → parts ≡ div_ceil whole share → whole ≤ share * budget → parts ≤ budget
parts_within whole share parts budget some is enough = ⊎_elim
    (λ less. absurd (omega (arith, enough, few_parts whole share parts budget some is less)))
    (λ le. le)
    (cases_lt budget parts)
