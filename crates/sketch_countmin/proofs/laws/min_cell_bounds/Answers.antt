use Rattle.sketch_countmin.proofs.Histories.{enclosed, raised_by_others}
use Rattle.sketch_countmin.proofs.States.{zero_cells}
use Rattle.sketch_countmin.proofs.laws.min_cell_bounds.Goals as goal

pub returns : goal.returns
returns c = record {
  encloses = λ s h bytes least some stands nonnegative is. enclosed s h bytes least some is stands nonnegative;
  raised = λ s h bytes least some stands exact is. raised_by_others s h bytes least some is stands exact;
  empty = zero_cells;
}
