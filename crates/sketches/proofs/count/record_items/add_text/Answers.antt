use Rattle.std.proofs.Common.{◌≡◌, sym, ◌∙◌}
use Rattle.std.proofs.lemmas.Str.{utf8_lossy-IsUtf8}
use Rattle.std.specs.Str.Lossy.{utf8_lossy}
use Rattle.sketches.proofs.count.record_items.add_text.Goals as goal

pub returns-in-Ok-clause-added : goal.returns-in-Ok-clause-added
returns-in-Ok-clause-added c =
    let same : c.in-Ok.text.now ≡ utf8_lossy c.args.bytes.now = c.in-Ok.ensures.cases.0 ∙ sym (utf8_lossy-IsUtf8 c.args.bytes.now c.in-Ok.ensures.cases.1) in
    rw same at c.add_string.ensures.added

pub returns-in-Ok-clause-failed : goal.returns-in-Ok-clause-failed
returns-in-Ok-clause-failed c =
    let same : c.in-Ok.text.now ≡ utf8_lossy c.args.bytes.now = c.in-Ok.ensures.cases.0 ∙ sym (utf8_lossy-IsUtf8 c.args.bytes.now c.in-Ok.ensures.cases.1) in
    rw same at c.add_string.ensures.failed
