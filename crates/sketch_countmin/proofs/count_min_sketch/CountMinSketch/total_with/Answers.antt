use Rattle.sketch_countmin.proofs.Tables.{state_shown}
use Rattle.sketch_countmin.proofs.count_min_sketch.CountMinSketch.total_with.Goals as goal

pub returns-in_default-clause-state : goal.returns-in_default-clause-state
returns-in_default-clause-state g c = state_shown _ _ _ _ _ _ _ c.self.view_is c.self.invariant

pub returns-in-Some-checked_add-clause-state : goal.returns-in-Some-checked_add-clause-state
returns-in-Some-checked_add-clause-state g c = state_shown _ _ _ _ _ _ _ c.self.view_is c.self.invariant

pub returns-in-None-clause-state : goal.returns-in-None-clause-state
returns-in-None-clause-state g c = state_shown _ _ _ _ _ _ _ c.self.view_is c.self.invariant
