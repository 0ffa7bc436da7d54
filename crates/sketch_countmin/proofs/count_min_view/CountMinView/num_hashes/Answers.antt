use Rattle.std.proofs.Common.{sym, ap, ◌∙◌}
use Rattle.sketch_countmin.specs.State.{CountState}
use Rattle.sketch_countmin.proofs.Tables.{state_shown}
use Rattle.sketch_countmin.proofs.count_min_view.CountMinView.num_hashes.Goals as goal

pub returns-clause-hashes : goal.returns-clause-hashes
returns-clause-hashes g c = sym c.self.invariant.rows ∙ ap (λ (s : CountState). s.hashes) c.self.view_is

pub returns-clause-state : goal.returns-clause-state
returns-clause-state g c = state_shown _ _ _ _ _ _ _ c.self.view_is c.self.invariant.table
