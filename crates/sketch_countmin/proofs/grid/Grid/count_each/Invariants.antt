use Rattle.std.proofs.Common.{map}
use Rattle.sketch_base.specs.Hashes.{fed_bytes}
use Rattle.sketch_countmin.specs.Grid.{CountsInRows}
use Rattle.sketch_countmin.proofs.grid.Grid.count_each.Given as goal

abbrev pub invariant-rows : goal.invariant-rows
invariant-rows g l = CountsInRows (map (fed_bytes g.I.Hash.hash_input) l.items) l.row l.initial.self l.self
