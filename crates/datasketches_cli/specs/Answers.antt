-- The answers to requests.
use Rattle.datasketches.specs.declared.reply.Reply.{Reply}
use Rattle.heavy_windows.specs.declared.report.Report.{Report}
use Rattle.datasketches_cli.specs.Texts.{Text}

-- the answer to a request: the reply of the session, or that to a request on windows, or a report on windows
pub data Answer : Type 0 where
  Replied : Reply Text → Answer
  Reported : Report Text → Answer
