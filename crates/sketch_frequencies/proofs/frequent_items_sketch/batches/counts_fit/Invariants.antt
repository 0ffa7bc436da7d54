use Rattle.std.proofs.Common.{◌≡◌, ◌+◌, ◌^◌, take}
use Rattle.std.specs.Prelude.{sum}
use Rattle.sketch_frequencies.proofs.frequent_items_sketch.batches.counts_fit.Given as goal

-- what is left for the other counts
abbrev pub invariant-each : goal.invariant-each
invariant-each l = l.total + sum (take l.i l.counts) + l.room + 1 ≡ 2 ^ 64
