use Rattle.std.proofs.Common.{◌≡◌, ◌≤◌, take, sum}
use Rattle.sketch_frequencies.specs.Image.{weights_at}
use Rattle.sketch_frequencies.proofs.image.check_weights.Given as goal

-- the weights so far are within the total
abbrev pub invariant-loop-i : goal.invariant-loop-i
invariant-loop-i l = record {
  sum : l.sum ≡ sum (take l.i (weights_at l.image));
  within : l.sum ≤ l.total;
}
