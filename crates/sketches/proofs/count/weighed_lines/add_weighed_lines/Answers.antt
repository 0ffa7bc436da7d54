use Rattle.std.proofs.Common.{refl}
use Rattle.std.specs.Str.Lines.{lines}
use Rattle.std.proofs.lemmas.Result.{err_from_is_err_and}
use Rattle.sketches.specs.Skipped.{skips_line}
use Rattle.sketches.specs.declared.item.weighing.Weighing.TheVariants.{Field}
use Rattle.sketches.proofs.LineCounts.{line_grows}
use Rattle.sketches.proofs.SkippedLines.{skipped_more}
use Rattle.sketches.proofs.WeighedLines.{weighed_lines_none, weighed_lines_more, weighed_lines_failed}
use Rattle.sketches.proofs.Utf8Strings.{grown_more}
use Rattle.sketches.proofs.count.weighed_lines.add_weighed_lines.Goals as goal

pub each-init : goal.each-init
each-init c = (weighed_lines_none (Field c.args.part) c.args.sketch.now c.args.count.now (lines c.args.bytes.now), refl, refl)

pub each-preserved : goal.each-preserved
each-preserved c = (
  weighed_lines_more (Field c.args.part) c.args.sketch.now c.each.sketch c.add_raw_line.new.sketch c.args.count.now c.each.count c.saturating_add.result (lines c.args.bytes.now) (lines c.each.rest.now) (lines c.in-Some.after.now) c.in-Some.line.now c.each.invariant.0 c.in-Some.ensures.taken.0 c.in_ok-add_raw_line.ensures.added (line_grows c.args.part c.each.count c.saturating_add.result c.in-Some.line.now c.saturating_add.ensures),
  grown_more (Field c.args.part) c.args.not_utf8.now c.each.not_utf8 c.add_raw_line.new.not_utf8 (lines c.args.bytes.now) (lines c.each.rest.now) (lines c.in-Some.after.now) c.in-Some.line.now c.each.invariant.1 c.in-Some.ensures.taken.0 c.add_raw_line.ensures.counted,
  skipped_more (skips_line c.args.part) c.args.bad.now c.each.bad c.add_raw_line.new.bad (lines c.args.bytes.now) (lines c.each.rest.now) (lines c.in-Some.after.now) c.in-Some.line.now c.each.invariant.2 c.in-Some.ensures.taken.0 c.in_ok-add_raw_line.ensures.skipped,
)

pub returns-in_err-add_raw_line-clause-failed : goal.returns-in_err-add_raw_line-clause-failed
returns-in_err-add_raw_line-clause-failed c =
    let e = err_from_is_err_and c.from_residual.result c.from_residual.ensures.1 in
    rw (e.1, e.2) (weighed_lines_failed (Field c.args.part) c.args.sketch.now c.each.sketch c.args.count.now c.each.count c.saturating_add.result c.args.bytes.now (lines c.each.rest.now) (lines c.in-Some.after.now) c.in-Some.line.now _ c.each.invariant.0 c.in-Some.ensures.taken.0 c.saturating_add.ensures c.in_err-add_raw_line.ensures.failed)
