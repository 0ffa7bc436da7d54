use Rattle.std.proofs.Common.{refl, arith}
use Rattle.datasketches.specs.Actions.{Ask}
use Rattle.datasketches_cli.specs.Answers.{Replied}
use Rattle.datasketches_cli.specs.Requests.{Act}
use Rattle.datasketches_cli.proofs.Spelling.{ran_written}
use Rattle.datasketches_cli.proofs.TextItems.{text_named}
use Rattle.datasketches_cli.proofs.state.State.ask.Goals as goal

pub returns-in-Ok : goal.returns-in-Ok
returns-in-Ok c =
    let (x, same, named) = text_named c.args.item.now c.utf8.item (omega arith) c.args.alloc in
    ran_written (Act (Ask c.args.name.now c.args.item.now)) (Replied c.in-Ok.reply) c.args.self.now c.args.self.now _ _ _
    ((x, same, rw c.in-Ok.is at ((c.ask.ensures.performed x named).step)), refl) c.replied.ensures

pub returns-in-Err : goal.returns-in-Err
returns-in-Err c =
    let (x, same, named) = text_named c.args.item.now c.utf8.item (omega arith) c.args.alloc in
    (((x, same, rw c.in-Err.is at ((c.ask.ensures.performed x named).step)), refl), refl)
