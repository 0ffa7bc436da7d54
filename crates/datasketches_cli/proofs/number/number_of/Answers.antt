use Rattle.std.proofs.Common.{◌≢◌, ◌∙◌, get_or, refl}
use Rattle.datasketches_cli.proofs.Numbers.{number_from_parse, first_plain}
use Rattle.datasketches_cli.proofs.number.number_of.Goals as goal

pub returns : goal.returns
returns c =
    let plain : get_or c.args.word.now 0 0 ≢ 43 = first_plain c.args.word.now c.first.result _ refl (rw c.as_bytes-2.ensures.value at c.first.ensures.value) c.if-eq.ensures in
    c.ok.ensures.value ∙ number_from_parse c.args.word.now _ c.parse.ensures.value.0 plain
