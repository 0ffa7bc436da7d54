use Rattle.std.proofs.Common.{ℕ, get_or, pos, subst}
use Rattle.std.specs.Prelude.{◌≤ℤ◌}
use Rattle.sketch_countmin.specs.Grid.{GridState}
use Rattle.sketch_countmin.proofs.Decays.{cells_nonnegative}
use Rattle.sketch_countmin.proofs.grid.Grid.halve.Goals as goal

pub returns-clause-positive : goal.returns-clause-positive
returns-clause-positive g c =
    subst (λ (s : GridState). (k : ℕ) → pos 0 ≤ℤ get_or s.cells k (pos 0)) c.self.view_is (cells_nonnegative g.T.CountMinValue.number g.met.T.UnsignedCountMinValue.unsigned c.self.inside.counts.items)
