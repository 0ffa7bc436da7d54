use Rattle.sketches.proofs.WeighedLines.{item_added}
use Rattle.sketches.proofs.count.record_items.add_string.Goals as goal

pub returns-clause-added : goal.returns-clause-added
returns-clause-added c =
    let e = c.in_ok-update_item_with_count.ensures in
    item_added c.args.sketch.now c.update_item_with_count.new.self c.args.text.now c.args.weight (λ zero. (e.zero zero).1) e.step e.stands e.budget
