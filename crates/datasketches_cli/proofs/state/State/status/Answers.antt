use Rattle.std.proofs.Common.{refl}
use Rattle.datasketches.specs.Actions.{GetStatus}
use Rattle.datasketches.specs.declared.reply.Reply.TheVariants.{Status}
use Rattle.datasketches_cli.specs.Answers.{Replied}
use Rattle.datasketches_cli.specs.Requests.{Act}
use Rattle.datasketches_cli.proofs.Spelling.{ran_written}
use Rattle.datasketches_cli.proofs.state.State.status.Goals as goal

pub returns-in-Ok : goal.returns-in-Ok
returns-in-Ok c =
    ran_written (Act (GetStatus c.args.name.now)) (Replied (Status c.in-Ok.status)) c.args.self.now c.args.self.now _ _ _
    (rw c.in-Ok.is at c.status.ensures.step, refl) c.replied.ensures
