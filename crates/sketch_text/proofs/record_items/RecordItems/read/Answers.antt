use Rattle.sketch_text.proofs.ItemsOfRecords.{taken_more}
use Rattle.sketch_text.proofs.record_items.RecordItems.read.Goals as goal

pub each-preserved : goal.each-preserved
each-preserved g c =
    let e = c.in_default-add.ensures in
    let next = c.in-Some.ensures in
    taken_more g.W.RecordWeight.reads g.W.RecordWeight.ONE c.args.chosen c.args.bytes.now c.each.rest.now c.each.count c.each.found c.each.invariant
    c.in-Some.row.now c.in-Some.after.now c.add.new.self next.taken.0 next.taken.1 next.end e.good e.items e.weights
