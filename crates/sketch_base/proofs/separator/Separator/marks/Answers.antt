use Rattle.std.proofs.Common.{eqb, w8}
use Rattle.std.proofs.lemmas.Simd.{bitmask_splat}
use Rattle.sketch_base.proofs.Separators.{white_marks}
use Rattle.sketch_base.proofs.separator.Separator.marks.Goals as goal

pub returns-in-Space : goal.returns-in-Space
returns-in-Space g c = rw c.in-Space.is (bitmask_splat w8 eqb c.args.lanes g.row.N 32 c.requires.long c.requires.lanes)

pub returns-in-LineFeed : goal.returns-in-LineFeed
returns-in-LineFeed g c = rw c.in-LineFeed.is (bitmask_splat w8 eqb c.args.lanes g.row.N 10 c.requires.long c.requires.lanes)

pub returns-in-AsciiWhitespace : goal.returns-in-AsciiWhitespace
returns-in-AsciiWhitespace g c = rw c.in-AsciiWhitespace.is (white_marks c.args.lanes g.row.N c.requires.long c.requires.lanes)
