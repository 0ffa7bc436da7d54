use Rattle.std.proofs.Common.{◌≢◌, ◌∙◌, get_or, refl}
use Rattle.datasketches_cli.proofs.Numbers.{signed_from_parse, first_plain, first_plus}
use Rattle.datasketches_cli.proofs.number.signed_number.Goals as goal

pub returns-then-eq : goal.returns-then-eq
returns-then-eq c = first_plus c.args.word.now c.first.result _ refl (rw c.as_bytes.ensures.value at c.first.ensures.value) c.if-eq.ensures

pub returns : goal.returns
returns c =
    let plain : get_or c.args.word.now 0 0 ≢ 43 = first_plain c.args.word.now c.first.result _ refl (rw c.as_bytes.ensures.value at c.first.ensures.value) c.if-eq.ensures in
    c.ok.ensures.value ∙ signed_from_parse c.args.word.now _ c.parse.ensures.value.0 plain
