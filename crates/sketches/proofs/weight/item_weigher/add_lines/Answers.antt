use Rattle.std.proofs.Common.{refl}
use Rattle.sketch_text.specs.Records.{records_by}
use Rattle.sketches.specs.Skipped.{skips_row}
use Rattle.sketches.proofs.SkippedLines.{skipped_more}
use Rattle.sketches.proofs.ItemWeights.{lines_none, lines_more, lines_failed}
use Rattle.std.proofs.lemmas.Result.{err_from_is_err_and}
use Rattle.sketches.proofs.weight.item_weigher.add_lines.Goals as goal

pub each-init : goal.each-init
each-init c = (lines_none c.args.chosen c.args.sketch.now c.args.count.now (records_by c.args.chosen.item c.args.bytes.now), refl)

pub each-preserved : goal.each-preserved
each-preserved c =
    let d = c.args.chosen.item in (
      lines_more c.args.chosen c.args.sketch.now c.each.sketch c.add_line.new.sketch c.args.count.now c.each.count c.saturating_add-in-each.result (records_by d c.args.bytes.now) (records_by d c.each.rest.now) (records_by d c.in-Some.after.now) c.in-Some.row.now c.each.invariant.0 c.in-Some.ensures.taken.0 c.in_ok-add_line.ensures.added (rw c.lines_of_row.ensures at c.saturating_add-in-each.ensures),
      skipped_more (skips_row c.args.chosen) c.args.bad.now c.each.bad c.add_line.new.bad (records_by d c.args.bytes.now) (records_by d c.each.rest.now) (records_by d c.in-Some.after.now) c.in-Some.row.now c.each.invariant.1 c.in-Some.ensures.taken.0 c.in_ok-add_line.ensures.skipped,
    )

pub returns-in_err-add_line-clause-failed : goal.returns-in_err-add_line-clause-failed
returns-in_err-add_line-clause-failed c =
    let e = err_from_is_err_and c.from_residual.result c.from_residual.ensures.1 in
    rw (e.1, e.2) (lines_failed c.args.chosen c.args.sketch.now c.each.sketch c.args.count.now c.each.count c.saturating_add.result (records_by c.args.chosen.item c.args.bytes.now) (records_by c.args.chosen.item c.each.rest.now) (records_by c.args.chosen.item c.in-Some.after.now) c.in-Some.row.now _ c.each.invariant.0 c.in-Some.ensures.taken.0 c.saturating_add.ensures c.in_err-add_line.ensures.failed)
