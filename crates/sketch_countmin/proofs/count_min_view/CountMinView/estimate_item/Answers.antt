use Rattle.std.proofs.Common.{arith, ◌<◌}
use Rattle.sketch_countmin.proofs.Histories.{enclosed, raised_by_others}
use Rattle.sketch_countmin.proofs.count_min_view.CountMinView.estimate_item.Goals as goal

pub returns-clause-encloses : goal.returns-clause-encloses
returns-clause-encloses g c =
    let buckets : 0 < c.args.self.now.buckets = omega (arith, c.min_cell.ensures.state.some_buckets) in
    λ h stands nonnegative. enclosed c.args.self.now h (g.R.Item.bytes c.args.item) (g.T.CountMinValue.number c.min_cell.result) buckets c.min_cell.ensures.least stands nonnegative

pub returns-clause-raised : goal.returns-clause-raised
returns-clause-raised g c =
    let buckets : 0 < c.args.self.now.buckets = omega (arith, c.min_cell.ensures.state.some_buckets) in
    λ h stands exact. raised_by_others c.args.self.now h (g.R.Item.bytes c.args.item) (g.T.CountMinValue.number c.min_cell.result) buckets c.min_cell.ensures.least stands exact
