use Rattle.heavy_windows.proofs.Sums.{items_weigh, total_is, others_weigh}
use Rattle.heavy_windows.proofs.laws.report_weights.Goals as goal

pub returns : goal.returns
returns g c = record { items = items_weigh g.T.PartialEq.eq; total = total_is g.T.PartialEq.eq; others = others_weigh g.T.PartialEq.eq }
