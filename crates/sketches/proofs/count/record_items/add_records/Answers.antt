use Rattle.std.proofs.Common.{refl}
use Rattle.std.proofs.lemmas.Result.{err_from_is_err_and}
use Rattle.sketch_text.specs.Records.{records_by}
use Rattle.sketches.specs.Skipped.{skips_row}
use Rattle.sketches.specs.declared.item.weighing.Weighing.TheVariants.{Record}
use Rattle.sketches.proofs.LineCounts.{next_grows}
use Rattle.sketches.proofs.SkippedLines.{skipped_more}
use Rattle.sketches.proofs.WeighedLines.{weighed_lines_none, weighed_lines_more, weighed_lines_failed}
use Rattle.sketches.proofs.Utf8Strings.{grown_more}
use Rattle.sketches.proofs.count.record_items.add_records.Goals as goal

pub each-init : goal.each-init
each-init c = (weighed_lines_none (Record c.args.chosen) c.args.sketch.now c.args.count.now (records_by c.args.chosen.item c.args.bytes.now), refl, refl)

pub each-preserved : goal.each-preserved
each-preserved c =
    let d = c.args.chosen.item in (
      weighed_lines_more (Record c.args.chosen) c.args.sketch.now c.each.sketch c.add_record.new.sketch c.args.count.now c.each.count c.saturating_add.result (records_by d c.args.bytes.now) (records_by d c.each.rest.now) (records_by d c.in-Some.after.now) c.in-Some.row.now c.each.invariant.0 c.in-Some.ensures.taken.0 c.in_ok-add_record.ensures.added (next_grows c.args.chosen c.each.count c.saturating_add.result c.in-Some.row.now (rw c.lines_of_row.ensures at c.saturating_add.ensures)),
      grown_more (Record c.args.chosen) c.args.not_utf8.now c.each.not_utf8 c.add_record.new.not_utf8 (records_by d c.args.bytes.now) (records_by d c.each.rest.now) (records_by d c.in-Some.after.now) c.in-Some.row.now c.each.invariant.1 c.in-Some.ensures.taken.0 c.in_ok-add_record.ensures.counted,
      skipped_more (skips_row c.args.chosen) c.args.bad.now c.each.bad c.add_record.new.bad (records_by d c.args.bytes.now) (records_by d c.each.rest.now) (records_by d c.in-Some.after.now) c.in-Some.row.now c.each.invariant.2 c.in-Some.ensures.taken.0 c.in_ok-add_record.ensures.skipped,
    )

pub returns-in_err-add_record-clause-failed : goal.returns-in_err-add_record-clause-failed
returns-in_err-add_record-clause-failed c =
    let e = err_from_is_err_and c.from_residual.result c.from_residual.ensures.1 in
    let d = c.args.chosen.item in
    rw (e.1, e.2) (weighed_lines_failed (Record c.args.chosen) c.args.sketch.now c.each.sketch c.args.count.now c.each.count c.saturating_add-number.result c.args.bytes.now (records_by d c.each.rest.now) (records_by d c.in-Some.after.now) c.in-Some.row.now _ c.each.invariant.0 c.in-Some.ensures.taken.0 c.saturating_add-number.ensures c.in_err-add_record.ensures.failed)
