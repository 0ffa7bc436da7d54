use Rattle.std.proofs.Common.{◌≡◌, ℤ, ◌+ℤ◌, subst, to_z, of_z}
use Rattle.std.specs.Int.{w128}
use Rattle.sketch_countmin.specs.Values.{Checks}
use Rattle.sketch_countmin.proofs.Numbers.{sum_fits, sum_is}
use Rattle.sketch_countmin.proofs.count_min_value.CountMinValue.checked_add.Goals as goal

pub returns : goal.returns
returns g c =
    let whole : to_z w128 (of_z w128 (to_z w128 (of_z w128 c.to_number.result) +ℤ to_z w128 (of_z w128 c.to_number-2.result))) ≡ g.Self.CountMinValue.number c.args.self +ℤ g.Self.CountMinValue.number c.args.other = sum_is c.to_number.result c.to_number-2.result _ _ c.to_number.ensures.value c.to_number-2.ensures.value c.to_number.ensures.narrow c.to_number-2.ensures.narrow in
    subst (λ (z : ℤ). Checks g.Self.CountMinValue.number g.Self.CountMinValue.least g.Self.CountMinValue.greatest z c.from_number.result) whole c.from_number.ensures

pub overflow_add-to_number : goal.overflow_add-to_number
overflow_add-to_number g c = sum_fits c.to_number.result c.to_number-2.result c.to_number.ensures.narrow c.to_number-2.ensures.narrow
