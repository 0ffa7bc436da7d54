use Rattle.sketch_countmin.proofs.Tables.{state_shown}
use Rattle.sketch_countmin.proofs.count_min_sketch.CountMinSketch.num_hashes.Goals as goal

pub returns-clause-state : goal.returns-clause-state
returns-clause-state g c = state_shown _ _ _ _ _ _ _ c.self.view_is c.self.invariant
