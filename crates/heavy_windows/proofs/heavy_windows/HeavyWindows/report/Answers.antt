use Rattle.std.proofs.Common.{rules, ◌<◌, All, max, subst, sym, ◌∙◌}
use Rattle.std.proofs.lemmas.Result.{err_from_is_err_and}
use Rattle.sketch_frequencies.specs.History.{true_weight}
use Rattle.heavy_windows.specs.Histories.{report_history}
use Rattle.heavy_windows.specs.State.{at_tenant}
use Rattle.heavy_windows.proofs.Reports.{paid_by_tail, rows_enclose}
use Rattle.heavy_windows.proofs.heavy_windows.HeavyWindows.report.Goals as goal

pub returns : goal.returns
returns g c =
    let eq = g.T.PartialEq.eq in
    let size = c.args.self.now.max_map_size in
    let key = c.args.self.now.key in
    let windows = at_tenant c.args.tenant c.args.self.now in
    let threshold = c.args.threshold in
    let merged = c.in_ok-merged.ensures.merged in
    let rows = c.in_ok-rows.ensures in
    let error = c.maximum_error.ensures.value in
    record {
      call = record {
        ok = record { merged = c.in_ok-merged.merged; is_merged = merged; rows = rows.exact; descending = rows.descending; error = error; total = c.total_weight.ensures };
        total = λ hs stand. c.total_weight.ensures ∙ (merged.stands hs stand).encloses.total;
        encloses = rows_enclose eq c.args.error_type threshold size key windows c.in_ok-merged.merged c.in_ok-rows.rows.items merged rows.exact;
        none_missing = λ kind hs stand x above. rows.none_missing kind (report_history size hs) (merged.stands hs stand).encloses x (subst (λ e. max threshold e < true_weight eq (report_history size hs) x) error above);
        none_below = λ kind hs stand. subst (λ e. All (λ row. max threshold e < true_weight eq (report_history size hs) row.item) c.in_ok-rows.rows.items) (sym error) (rows.none_below kind (report_history size hs) (merged.stands hs stand).encloses);
        budget = paid_by_tail eq size key windows c.in_ok-merged.merged merged c.maximum_error.result error;
        overflow = search rules;
        memory = λ _. tt;
      };
    }

-- there was no memory for the rows
pub returns-in_err-rows : goal.returns-in_err-rows
returns-in_err-rows g c =
    let p = err_from_is_err_and c.from_residual-in_err-rows.result c.from_residual-in_err-rows.ensures.1 in
    rw p.1 (record {
      call = record {
        ok = tt;
        total = tt;
        encloses = tt;
        none_missing = tt;
        none_below = tt;
        budget = tt;
        overflow = λ over. absurd (cc (c.in_ok-merged.ensures.overflow over));
        memory = λ room. p.2 ∙ c.in_err-rows.ensures.err;
      };
    })
