use Rattle.sketches.proofs.Utf8Strings.{line_grows_none}
use Rattle.sketches.proofs.item.utf8_lines.str_of.Goals as goal

pub returns-in-Ok-clause-counted : goal.returns-in-Ok-clause-counted
returns-in-Ok-clause-counted c = line_grows_none c.args.selection c.args.line.now c.args.not_utf8.now c.in-Ok.ensures.cases.1
