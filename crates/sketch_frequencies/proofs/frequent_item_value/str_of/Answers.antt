use Rattle.std.proofs.Common.{sym, ap, ◌∙◌, Ok, refl}
use Rattle.sketch_frequencies.proofs.Texts.{taken_bad, taken_ok}
use Rattle.sketch_frequencies.proofs.frequent_item_value.str_of.Goals as goal

pub returns-in_default-clause-err : goal.returns-in_default-clause-err
returns-in_default-clause-err c = rw c.invalid_data.ensures (refl, taken_bad c.args.len c.args.unread.now c.in_ok-check_length.ensures.enough c.in_default.ensures.cases.0)

pub returns-clause-ok : goal.returns-clause-ok
returns-clause-ok c = taken_ok c.args.len c.args.unread.now c.in_ok-check_length.ensures.enough c.in-Ok.ensures.cases.1 ∙ ap (λ t. Ok t) (sym c.in-Ok.ensures.cases.0)
