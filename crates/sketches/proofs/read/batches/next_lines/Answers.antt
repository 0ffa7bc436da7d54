use Rattle.std.proofs.Common.{◌<◌, length, ◌∙◌, arith}
use Rattle.std.proofs.lemmas.List.{length-set}
use Rattle.sketches.proofs.Batching.{taken_more}
use Rattle.sketches.proofs.read.batches.next_lines.Goals as goal

pub each-preserved : goal.each-preserved
each-preserved c =
    let so = c.each.invariant in
    let e = c.in-Some.ensures.taken in
    let less : c.each.count < length c.each.items = omega (arith, so.1, so.2, c.each-test.true) in (
      omega (arith, length-set c.each.raws c.each.count c.in-Some.raw, c.each-test.true),
      length-set c.each.raws c.each.count c.in-Some.raw ∙ so.1,
      length-set c.each.items c.each.count c.in-Ok.text ∙ so.2,
      omega (arith, so.3, e.2),
      taken_more c.args.part c.args.bytes.now c.each.rest.now c.in-Some.after.now c.in-Some.row.now c.in-Some-whole_part_of.item.now c.each.raws c.each.items c.each.count c.in-Some.raw c.in-Ok.text c.each-test.true less so.4 e.0 e.1 c.in-Some-whole_part_of.ensures c.in-Ok.ensures.cases.0,
    )
