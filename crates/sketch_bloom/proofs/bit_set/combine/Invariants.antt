use Rattle.std.proofs.Common.{◌*◌}
use Rattle.sketch_bloom.specs.Operations.{on_words}
use Rattle.sketch_bloom.proofs.Lanes.{Combined}
use Rattle.sketch_bloom.proofs.bit_set.combine.Given as goal

abbrev pub invariant-eights : goal.invariant-eights
invariant-eights l = Combined (on_words l.operation) (8 * l.b) l.initial.words l.other l.words l.size

abbrev pub invariant-fours : goal.invariant-fours
invariant-fours l = Combined (on_words l.operation) (4 * l.b) l.fn.words l.other l.words l.size

abbrev pub invariant-rest : goal.invariant-rest
invariant-rest l = Combined (on_words l.operation) l.i l.fn.words l.other l.words l.size
