use Rattle.std.proofs.Common.{sym, ◌∙◌}
use Rattle.sketch_text.proofs.ItemsOfRecords.{good_item, no_weight, not_utf8}
use Rattle.sketch_text.proofs.record_items.RecordItems.add.Goals as goal

pub returns-in_default-from_utf8-clause-err : goal.returns-in_default-from_utf8-clause-err
returns-in_default-from_utf8-clause-err g c =
    not_utf8 g.W.RecordWeight.reads g.W.RecordWeight.ONE c.args.chosen c.args.row.now c.in-Some.item.now (rw c.in-Some.is at c.in_ok-item.ensures) _ c.invalid_argument.ensures c.in_default-from_utf8.ensures.cases.0

pub returns-in_default-2-clause-err : goal.returns-in_default-2-clause-err
returns-in_default-2-clause-err g c =
    no_weight g.W.RecordWeight.reads g.W.RecordWeight.ONE c.args.chosen c.args.row.now c.in-Some.item.now (rw c.in-Some.is at c.in_ok-item.ensures) _ c.invalid_argument-in_default-2.ensures c.in-Ok.ensures.cases.1 (sym c.in_ok-weight.ensures ∙ c.in_default-2.is)

pub returns-clause-good : goal.returns-clause-good
returns-clause-good g c =
    good_item g.W.RecordWeight.reads g.W.RecordWeight.ONE c.args.chosen c.args.row.now c.in-Some.item.now (rw c.in-Some.is at c.in_ok-item.ensures) c.in-Some-2.weight c.in-Ok.ensures.cases.1 (sym c.in_ok-weight.ensures ∙ c.in-Some-2.is)
