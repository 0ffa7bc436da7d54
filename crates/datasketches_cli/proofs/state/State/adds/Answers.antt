use mir.Val.{to_z, of_z}
use Rattle.std.proofs.Common.{◌≡◌, refl, w64, to_z-of_z, arith}
use Rattle.datasketches_cli.proofs.TextItems.{text_named}
use Rattle.datasketches_cli.proofs.state.State.adds.Goals as goal

pub returns : goal.returns
returns c = λ lines.
    let weight : to_z w64 (of_z w64 c.in-Some.weight) ≡ c.in-Some.weight = grind (arith, to_z-of_z) in
    let (x, same, named) = text_named c.args.item.now c.utf8.item (omega arith) _ in
    rw (← c.in-Some.ensures) (((x, same, rw weight at ((c.add_signed.ensures x named).step)), refl), refl)
