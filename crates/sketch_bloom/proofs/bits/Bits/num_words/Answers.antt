use Rattle.std.proofs.Common.{subst}
use Rattle.sketch_bloom.specs.State.{FilterState, IsFilterState}
use Rattle.sketch_bloom.proofs.States.{bits_state}
use Rattle.sketch_bloom.proofs.bits.Bits.num_words.Goals as goal

pub returns-clause-state : goal.returns-clause-state
returns-clause-state g c = subst (λ (s : FilterState). IsFilterState s) c.self.view_is (bits_state (g.W.Words.list c.self.inside.words) c.self.inside.capacity c.self.inside.num_hashes c.self.inside.seed c.self.invariant)
