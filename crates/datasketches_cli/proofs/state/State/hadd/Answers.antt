use Rattle.std.proofs.Common.{refl}
use Rattle.datasketches_cli.proofs.state.State.hadd.Goals as goal

pub returns-in-Ok : goal.returns-in-Ok
returns-in-Ok c = λ lines.
    rw (← c.in-Some.ensures, ← c.in-Some-number_of.ensures)
    ((c.in-Ok.item, c.in-Ok.ensures.ok, (c.add.result, c.add.ensures, refl, refl)), refl)
