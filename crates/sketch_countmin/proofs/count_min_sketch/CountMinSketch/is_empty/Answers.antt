use Rattle.sketch_countmin.specs.State.{IsCountState}
use Rattle.sketch_countmin.proofs.Tables.{state_shown}
use Rattle.sketch_countmin.proofs.States.{zero_cells}
use Rattle.sketch_countmin.proofs.count_min_sketch.CountMinSketch.is_empty.Goals as goal

pub returns-clause-cells : goal.returns-clause-cells
returns-clause-cells g c =
    let state : IsCountState g.T.CountMinValue.greatest c.args.self.now = state_shown _ _ _ _ _ _ _ c.self.view_is c.self.invariant in
    zero_cells g.T.CountMinValue.greatest c.args.self.now state
