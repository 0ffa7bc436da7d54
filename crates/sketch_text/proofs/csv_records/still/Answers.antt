use Rattle.sketch_text.proofs.CsvRuns.{still_quoted, still_bare}
use Rattle.sketch_text.proofs.csv_records.still.Goals as goal

pub returns-in-Quoted-clause-still : goal.returns-in-Quoted-clause-still
returns-in-Quoted-clause-still g c = rw c.in-Quoted.is (still_quoted (g.E.ByteSet.member c.args.ends) c.args.bytes.now _ c.first_member.ensures.value)

pub returns-in-Bare-clause-still : goal.returns-in-Bare-clause-still
returns-in-Bare-clause-still g c = rw c.in-Bare.is (still_bare (g.E.ByteSet.member c.args.ends) c.args.bytes.now _ c.first_member-in-Bare.ensures.value)
