use Rattle.std.proofs.Common.{arith}
use Rattle.sketch_bloom.proofs.States.{written_state, written_few}
use Rattle.sketch_bloom.proofs.bits.Bits+Vec+u64.insert_pair.Goals as goal

pub returns-clause-state : goal.returns-clause-state
returns-clause-state c = written_state c.self.inside.words c.insert_positions.new.words c.self.inside.capacity c.self.inside.num_hashes c.self.inside.seed c.self.invariant (omega arith)

pub returns-clause-few : goal.returns-clause-few
returns-clause-few c = written_few c.self.inside.words c.insert_positions.new.words c.self.invariant.few_words (omega arith)
