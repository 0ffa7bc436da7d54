use Rattle.std.proofs.Common.{Ok, refl}
use Rattle.datasketches_cli.specs.Answers.{Reported}
use Rattle.datasketches_cli.specs.Requests.{ReportOf}
use Rattle.datasketches_cli.proofs.Spelling.{ran_written}
use Rattle.datasketches_cli.proofs.state.State.hreport.Goals as goal

pub returns-in-Ok : goal.returns-in-Ok
returns-in-Ok c =
    rw (← c.in-Some.ensures, ← c.in-Some-report_of.ensures, ← c.in-Some-number_of.ensures)
    (ran_written (ReportOf c.in-Some.tenant c.in-Some-report_of.error_type c.in-Some-number_of.threshold) (Reported c.in-Ok.report) c.args.self.now c.args.self.now _ _ _
    (Ok c.in-Ok.report, c.in-Ok.ensures, refl, refl) c.reported.ensures)
