use Rattle.sketch_text.proofs.PairMarks.{pair_marks}
use Rattle.sketch_text.proofs.two_bytes.TwoBytes.marks.Goals as goal

pub returns : goal.returns
returns g c = pair_marks c.args.lanes g.row.N c.requires.long c.args.self.0 c.args.self.1 c.requires.lanes
