use Rattle.std.proofs.Common.{◌≡◌, Some, refl, sym}
use Rattle.datasketches.specs.Actions.{Load}
use Rattle.datasketches.specs.Replies.{done_or}
use Rattle.datasketches_cli.specs.Grammar.{bytes_of_digits}
use Rattle.datasketches_cli.specs.Steps.{Did}
use Rattle.datasketches_cli.proofs.state.State.load.Goals as goal

pub returns-in-Ok-Some : goal.returns-in-Ok-Some
returns-in-Ok-Some c = λ lines.
    let did : Did (Load c.args.name.now c.in-Some.kind c.in-Ok-Some.image.items c.in-Some-number_of.max_bytes) c.args.self.now.session (done_or c.load.result) c.load.new.self = rw c.deref.ensures.value at c.load.ensures.step in
    let made : bytes_of_digits c.args.digits.now ≡ Some c.in-Ok-Some.image.items = sym (rw c.in-Ok-Some.field-0-is at c.in-Ok-Some.ensures.made) in
    rw (c.in-Some.is, ← c.in-Some-number_of.ensures, made) ((did, refl), refl)
