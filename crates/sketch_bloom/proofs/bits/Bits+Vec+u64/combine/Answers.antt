use Rattle.std.proofs.Common.{arith}
use Rattle.sketch_bloom.proofs.States.{written_state}
use Rattle.sketch_bloom.proofs.bits.Bits+Vec+u64.combine.Goals as goal

pub returns-clause-state : goal.returns-clause-state
returns-clause-state c = written_state c.self.inside.words c.combine.new.words c.self.inside.capacity c.self.inside.num_hashes c.self.inside.seed c.self.invariant (omega arith)
