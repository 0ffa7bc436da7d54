use Rattle.std.proofs.Common.{eqb, w8}
use Rattle.std.proofs.lemmas.Simd.{bitmask_splat}
use Rattle.sketch_base.proofs.byte_set.OneByte.marks.Goals as goal

pub returns : goal.returns
returns g c = bitmask_splat w8 eqb c.args.lanes g.row.N c.args.self.0 c.requires.long c.requires.lanes
