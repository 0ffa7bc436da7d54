use Rattle.std.proofs.Common.{List, [], ◌∷◌, ◌++◌, take, get_or, sym, ◌∙◌, ap, subst}
use Rattle.std.proofs.lemmas.List.{take_more}
use Rattle.sketch_text.specs.Columns.{added_by}
use Rattle.sketch_text.specs.declared.columns.Column.{Column}
use Rattle.sketch_text.specs.declared.columns.Column.TheVariants.{FromFirst}
use Rattle.sketch_text.proofs.MadeItems.{HasMade, made_more}
use Rattle.sketch_text.proofs.columns.append_joined.Goals as goal

pub more-preserved : goal.more-preserved
more-preserved c =
    let first = c.args.chosen.first in
    let more = c.first_of-more.result.now in
    let k = c.more.column-index in
    subst (λ (l : List Column). HasMade c.args.chosen.split c.args.row.now (first ∷ l) c.append_column-in-more.new.text.items) (sym (take_more more k (FromFirst 0) c.more-test.true))
    (made_more c.args.chosen.split c.args.row.now (first ∷ take k more) (get_or more k (FromFirst 0)) c.in-Some-column_of.found.now _ _ c.more.invariant c.in-Some-column_of.ensures
    (c.in_ok-append_column-2.ensures ∙ ap (λ l. l ++ added_by c.args.chosen.split c.in-Some-column_of.found.now) (c.in_ok-push.ensures.items ∙ ap (λ b. c.more.text.items ++ b ∷ []) c.between.ensures)))
