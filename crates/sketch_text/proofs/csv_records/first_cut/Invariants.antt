use Rattle.std.proofs.Common.{◌-◌, length}
use Rattle.sketch_text.proofs.CsvWalk.{HasSeen}
use Rattle.sketch_text.proofs.csv_records.first_cut.Given as goal

abbrev pub invariant-bytes : goal.invariant-bytes
invariant-bytes g l = HasSeen (g.E.ByteSet.member l.fn.ends) (g.T.ByteSet.member l.fn.stops) l.fn.place l.bytes l.at l.here

abbrev pub decreases-bytes : goal.decreases-bytes
decreases-bytes g l = length l.bytes - l.at
