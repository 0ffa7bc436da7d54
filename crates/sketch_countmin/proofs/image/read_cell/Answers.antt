use Rattle.std.proofs.Common.{◌≡◌, ◌≤◌, None, ℤ, unsigned_abs, subst, arith}
use Rattle.std.proofs.lemmas.Int.{ints}
use Rattle.sketch_base.specs.Checks.{first_failing}
use Rattle.sketch_countmin.specs.Image.{cell_checks}
use Rattle.sketch_countmin.proofs.Numbers.{size_fits}
use Rattle.sketch_countmin.proofs.Reading.{cell_passes}
use Rattle.sketch_countmin.proofs.image.read_cell.Goals as goal

-- said here so that a body with another test is refused at once
pub returns-clause-checks : goal.returns-clause-checks
returns-clause-checks g c =
    let least = g.T.CountMinValue.least in
    let greatest = g.T.CountMinValue.greatest in
    let z : ℤ = g.T.CountMinValue.number c.in_ok-value.value in
    let within : unsigned_abs z ≤ c.args.total = omega (arith, ints) in
    subst (λ (z : ℤ). first_failing (cell_checks least greatest c.args.total z) ≡ None) c.in_ok-value.ensures.0 (cell_passes least greatest c.args.total z c.to_number.ensures.in_range within)

pub overflow_cast-unsigned_abs : goal.overflow_cast-unsigned_abs
overflow_cast-unsigned_abs g c = record { fits = size_fits c.to_number.result _ c.unsigned_abs.ensures.value c.to_number.ensures.narrow }
