use Rattle.std.proofs.Common.{◌≡◌, ◌-◌, ◌≤◌, ◌++◌, length, map, take}
use Rattle.std.specs.List.{flat_map}
use Rattle.sketch_countmin.specs.Values.{bytes_of}
use Rattle.sketch_countmin.proofs.image.append_cells.Given as goal

-- the cells before `start` are appended
abbrev pub invariant-appends : goal.invariant-appends
invariant-appends g l = record {
  within : l.start ≤ length l.counts;
  written : l.image.items ≡ l.initial.image.items ++ flat_map bytes_of (map g.T.CountMinValue.number (take l.start l.counts));
}

abbrev pub decreases-appends : goal.decreases-appends
decreases-appends g l = length l.counts - l.start
