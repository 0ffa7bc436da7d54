use Rattle.std.proofs.Common.{◌≡◌, ◌*◌, map, take}
use Rattle.std.specs.List.{flat_map}
use Rattle.sketch_countmin.specs.Values.{bytes_of}
use Rattle.sketch_countmin.proofs.image.write_cells.Given as goal

-- the cells so far are there
abbrev pub invariant-loop-i : goal.invariant-loop-i
invariant-loop-i g l = take (8 * l.i) l.out ≡ flat_map bytes_of (map g.T.CountMinValue.number (take l.i l.counts))
