use Rattle.std.proofs.Common.{refl}
use Rattle.sketch_base.proofs.Searching.{no_mark, some_mark}
use Rattle.sketch_base.proofs.byte_set.lowest_mark.Goals as goal

pub returns-then-marks-eq0 : goal.returns-then-marks-eq0
returns-then-marks-eq0 c = no_mark c.args.marks c.args.len _ c.if-marks-eq0.true refl

pub returns-else-marks-eq0 : goal.returns-else-marks-eq0
returns-else-marks-eq0 c = some_mark c.args.marks c.args.len _ c.if-marks-eq0.false refl
