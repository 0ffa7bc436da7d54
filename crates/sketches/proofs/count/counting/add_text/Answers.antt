use Rattle.std.proofs.Common.{◌≡◌, sym, ap}
use Rattle.std.proofs.lemmas.Result.{err_from_is_err_and}
use Rattle.std.proofs.lemmas.Str.{utf8_lossy-IsUtf8}
use Rattle.std.specs.Str.Lines.{lines}
use Rattle.sketches.specs.Added.{AddsStrings}
use Rattle.sketches.specs.Items.{items_of_line, items_of_raw_line}
use Rattle.sketches.proofs.AddedItems.{lines_none, lines_more, lines_failed}
use Rattle.sketches.specs.Failures.{FailsAdding}
use Rattle.sketches.proofs.count.counting.add_text.Goals as goal

pub each-init : goal.each-init
each-init c = rw c.new-lines.ensures (lines_none c.args.selection c.args.sketch.now (lines c.args.text.now))

pub each-preserved : goal.each-preserved
each-preserved c =
    let same : items_of_line c.args.selection c.in-Some.line.now ≡ items_of_raw_line c.args.selection c.in-Some.line.now = ap (items_of_line c.args.selection) (sym (utf8_lossy-IsUtf8 c.in-Some.line.now c.add_line.ensures.utf8)) in
    let step : AddsStrings c.each.sketch (items_of_raw_line c.args.selection c.in-Some.line.now) c.add_line.new.sketch = rw same at c.in_ok-add_line.ensures.added in
    lines_more c.args.selection c.args.sketch.now c.each.sketch c.add_line.new.sketch (lines c.args.text.now) c.each.lines c.next_str.new.self c.in-Some.line.now c.each.invariant c.in-Some.ensures step

pub returns-in_err-add_line-clause-failed : goal.returns-in_err-add_line-clause-failed
returns-in_err-add_line-clause-failed c =
    let e = err_from_is_err_and c.from_residual.result c.from_residual.ensures.1 in
    let same : items_of_line c.args.selection c.in-Some.line.now ≡ items_of_raw_line c.args.selection c.in-Some.line.now = ap (items_of_line c.args.selection) (sym (utf8_lossy-IsUtf8 c.in-Some.line.now c.add_line.ensures.utf8)) in
    let failed : FailsAdding c.each.sketch (items_of_raw_line c.args.selection c.in-Some.line.now) c.in_err-add_line.field-0.0 = rw same at c.in_err-add_line.ensures.failed in
    rw (e.1, e.2) (lines_failed c.args.selection c.args.sketch.now c.each.sketch (lines c.args.text.now) c.each.lines c.next_str.new.self c.in-Some.line.now _ c.each.invariant c.in-Some.ensures failed)
