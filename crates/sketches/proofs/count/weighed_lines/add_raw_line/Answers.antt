use Rattle.std.proofs.Common.{sym, ◌∙◌}
use Rattle.std.proofs.lemmas.Str.{utf8_lossy-IsUtf8}
use Rattle.sketches.proofs.count.weighed_lines.add_raw_line.Goals as goal

pub add_line-requires : goal.add_line-requires
add_line-requires c =
    let cases = c.in-Some.ensures.text in
    cases.0 ∙ sym (utf8_lossy-IsUtf8 c.args.line.now cases.1)
