use Rattle.std.proofs.Common.{refl}
use Rattle.datasketches.specs.Actions.{ShowImage}
use Rattle.datasketches.specs.declared.reply.Reply.TheVariants.{Image}
use Rattle.datasketches_cli.specs.Answers.{Replied}
use Rattle.datasketches_cli.specs.Requests.{Act}
use Rattle.datasketches_cli.proofs.Spelling.{ran_written}
use Rattle.datasketches_cli.proofs.state.State.image.Goals as goal

pub returns-in-Ok : goal.returns-in-Ok
returns-in-Ok c =
    ran_written (Act (ShowImage c.args.name.now)) (Replied (Image c.in-Ok.bytes)) c.args.self.now c.args.self.now _ _ _
    (rw c.in-Ok.is at c.image.ensures.step, refl) c.replied.ensures
