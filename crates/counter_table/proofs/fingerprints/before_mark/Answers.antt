use Rattle.counter_table.proofs.LookupMarks.{before_first, before_none, first_within}
use Rattle.counter_table.proofs.fingerprints.before_mark.Goals as goal

pub returns-then-marks-eq0-clause-other : goal.returns-then-marks-eq0-clause-other
returns-then-marks-eq0-clause-other g c = before_none c.args.fingerprints.now c.args.index g.row.N c.args.mark c.marks_in-marks.result c.requires.room c.marks_in-marks.ensures c.if-marks-eq0.true

pub returns-else-marks-eq0-clause-few : goal.returns-else-marks-eq0-clause-few
returns-else-marks-eq0-clause-few g c = first_within c.args.fingerprints.now c.args.index g.row.N c.args.mark c.marks_in-marks.result c.requires.room c.requires.lanes c.marks_in-marks.ensures c.if-marks-eq0.false

pub returns-else-marks-eq0-clause-other : goal.returns-else-marks-eq0-clause-other
returns-else-marks-eq0-clause-other g c = before_first c.args.fingerprints.now c.args.index g.row.N c.args.mark c.marks_in-marks.result c.requires.room c.requires.lanes c.marks_in-marks.ensures c.if-marks-eq0.false
