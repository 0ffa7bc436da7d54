use Rattle.uses.proofs.Groups.{reports_either}
use Rattle.uses.proofs.group_by.GroupSums.heavy_groups.Goals as goal

pub returns-clause-heavy : goal.returns-clause-heavy
returns-clause-heavy g c =
    let report = c.frequent_items_with_threshold in
    rw (← c.self.view_is)
    (reports_either g.G.PartialEq.eq c.self.inside.sketch c.args.threshold (λ heavy. heavy.items) report.result report.ensures.exact report.ensures.none_missing)
