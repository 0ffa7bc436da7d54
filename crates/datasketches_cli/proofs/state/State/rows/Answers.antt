use Rattle.std.proofs.Common.{refl}
use Rattle.datasketches.specs.Actions.{ListRows}
use Rattle.datasketches.specs.declared.reply.Reply.TheVariants.{Rows}
use Rattle.datasketches_cli.specs.Answers.{Replied}
use Rattle.datasketches_cli.specs.Requests.{Act}
use Rattle.datasketches_cli.proofs.Spelling.{ran_written}
use Rattle.datasketches_cli.proofs.state.State.rows.Goals as goal

pub returns-in-Ok : goal.returns-in-Ok
returns-in-Ok c =
    rw (← c.in-Some.ensures, ← c.in-Some-number_of.ensures)
    (ran_written (Act (ListRows c.args.name.now c.in-Some.error_type c.in-Some-number_of.threshold)) (Replied (Rows c.in-Ok.rows)) c.args.self.now c.args.self.now _ _ _
    (rw c.in-Ok.is at c.rows.ensures.step, refl) c.replied.ensures)
