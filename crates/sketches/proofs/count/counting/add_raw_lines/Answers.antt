use Rattle.std.proofs.Common.{refl}
use Rattle.std.specs.Str.Lines.{lines}
use Rattle.sketches.proofs.AddedItems.{lines_none, lines_more, lines_failed}
use Rattle.sketches.proofs.Utf8Strings.{grown_more}
use Rattle.sketches.specs.declared.item.weighing.Weighing.TheVariants.{Once}
use Rattle.std.proofs.lemmas.Result.{err_from_is_err_and}
use Rattle.sketches.proofs.count.counting.add_raw_lines.Goals as goal

pub each-init : goal.each-init
each-init c = (lines_none c.args.selection c.args.sketch.now (lines c.args.bytes.now), refl)

pub each-preserved : goal.each-preserved
each-preserved c = (
  lines_more c.args.selection c.args.sketch.now c.each.sketch c.add_raw_line.new.sketch (lines c.args.bytes.now) (lines c.each.rest.now) (lines c.in-Some.after.now) c.in-Some.line.now c.each.invariant.0 c.in-Some.ensures.taken.0 c.in_ok-add_raw_line.ensures.added,
  grown_more (Once c.args.selection) c.args.not_utf8.now c.each.not_utf8 c.add_raw_line.new.not_utf8 (lines c.args.bytes.now) (lines c.each.rest.now) (lines c.in-Some.after.now) c.in-Some.line.now c.each.invariant.1 c.in-Some.ensures.taken.0 c.add_raw_line.ensures.counted,
)

pub returns-in_err-add_raw_line-clause-failed : goal.returns-in_err-add_raw_line-clause-failed
returns-in_err-add_raw_line-clause-failed c =
    let e = err_from_is_err_and c.from_residual.result c.from_residual.ensures.1 in
    rw (e.1, e.2) (lines_failed c.args.selection c.args.sketch.now c.each.sketch (lines c.args.bytes.now) (lines c.each.rest.now) (lines c.in-Some.after.now) c.in-Some.line.now _ c.each.invariant.0 c.in-Some.ensures.taken.0 c.in_err-add_raw_line.ensures.failed)
