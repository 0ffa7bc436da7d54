use Rattle.std.proofs.Common.{rules, sym}
use Rattle.std.proofs.lemmas.Result.{err_from_is_err_and}
use Rattle.sketches.proofs.WeighedLines.{line_added, line_failed}
use Rattle.sketches.proofs.count.weighed_lines.add_line.Goals as goal

pub returns-clause-added : goal.returns-clause-added
returns-clause-added c =
    let e = c.in_ok-update_item_with_count.ensures in
    line_added c.args.part c.args.line.now c.in-Some.item.now c.in-Some-line_weight.weight (rw c.requires at c.in-Some.ensures) (sym c.in-Some-line_weight.ensures.weight)
    c.args.sketch.now c.update_item_with_count.new.self (λ zero. (e.zero zero).1) e.step e.stands e.budget

pub returns-in_err-update_item_with_count-clause-failed : goal.returns-in_err-update_item_with_count-clause-failed
returns-in_err-update_item_with_count-clause-failed c =
    let e = err_from_is_err_and c.from_residual.result c.from_residual.ensures.1 in
    let failed = c.in_err-update_item_with_count.ensures in
    rw (e.1, e.2) (line_failed c.args.part c.args.line.now c.in-Some.item.now c.in-Some-line_weight.weight (rw c.requires at c.in-Some.ensures) (sym c.in-Some-line_weight.ensures.weight)
    c.args.sketch.now c.args.number c.in_err-update_item_with_count.field-0.0 (λ full. search (rules, failed.overflow full)) (λ room. search (rules, failed.memory room)))
