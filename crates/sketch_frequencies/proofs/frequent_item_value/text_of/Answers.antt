use Rattle.std.proofs.Common.{sym, ap, ◌∙◌, Ok, rules}
use Rattle.sketch_frequencies.proofs.Texts.{is_ok_from, refused_there}
use Rattle.sketch_frequencies.proofs.frequent_item_value.text_of.Goals as goal

pub returns-in_err-from_str-clause-err : goal.returns-in_err-from_str-clause-err
returns-in_err-from_str-clause-err c = refused_there _ _ _ (is_ok_from _ _ c.in_ok-text.ensures.ok) (Prim.search rules)

pub returns-clause-ok : goal.returns-clause-ok
returns-clause-ok c = c.in_ok-text.ensures.ok ∙ ap (λ t. Ok t) (sym c.in_ok-from_str.ensures.ok)
