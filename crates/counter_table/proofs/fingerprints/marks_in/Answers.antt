use Rattle.std.proofs.Common.{eqb, w8}
use Rattle.std.proofs.lemmas.Simd.{bitmask_splat}
use Rattle.counter_table.proofs.fingerprints.marks_in.Goals as goal

pub returns : goal.returns
returns g c = bitmask_splat w8 eqb c.args.lanes g.row.N c.args.mark c.requires.long c.requires.lanes
