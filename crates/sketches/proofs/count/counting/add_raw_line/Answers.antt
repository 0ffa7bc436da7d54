use Rattle.std.proofs.Common.{◌≡◌, sym, ap, ◌∙◌}
use Rattle.std.proofs.lemmas.Str.{utf8_lossy-IsUtf8}
use Rattle.sketches.specs.Items.{items_of_line, items_of_raw_line}
use Rattle.sketches.proofs.count.counting.add_raw_line.Goals as goal

pub returns-in-Some : goal.returns-in-Some
returns-in-Some c =
    let cases = c.in-Some.ensures.text in
    let same : items_of_line c.args.selection c.in-Some.text.now ≡ items_of_raw_line c.args.selection c.args.line.now = ap (items_of_line c.args.selection) (cases.0 ∙ sym (utf8_lossy-IsUtf8 c.args.line.now cases.1)) in
    record { added = rw same at c.add_line.ensures.added; failed = rw same at c.add_line.ensures.failed; counted = c.str_of.ensures.counted }
