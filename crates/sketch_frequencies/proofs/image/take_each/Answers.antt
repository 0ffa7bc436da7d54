use Rattle.std.proofs.Common.{◌∙◌, sym, arith}
use Rattle.sketch_frequencies.proofs.ImageSizes.{each_more}
use Rattle.sketch_frequencies.proofs.SlotEntries.{entries_passed}
use Rattle.sketch_frequencies.proofs.Spellings.{ok_and}
use Rattle.sketch_frequencies.proofs.image.take_each.Goals as goal
use Rattle.sketch_frequencies.proofs.image.take_each.Goals.{in-Taken+in-Ok+else-one-size, in_default}

pub loop-slot-preserved : goal.loop-slot-preserved
loop-slot-preserved g c =
    let codec = g.T.FrequentItemValue.codec in
    let content = g.T.FrequentItemValue.content in
    let slots = c.args.slots.now in
    let i = c.loop-slot.slot-index in
    elim c.match-slot.branch [
      | in-Taken+in-Ok+else-one-size w ↦
          let t = w.in-Taken in
          let one = ok_and (codec.encoding (content t.item)) w.in-Ok.ensures.ok in
          each_more codec content slots i t.drift t.count t.item c.slot-item.result c.args.size w.in-Ok.one one.0 c.loop-slot-test.true (sym c.slot-item.is ∙ t.is) one.1 one.2 (omega (arith, w.if-one-size.false)) c.loop-slot.invariant
      | in_default w ↦ rw (entries_passed slots i c.slot-item.result c.loop-slot-test.true (sym c.slot-item.is ∙ w.in_default.is)) c.loop-slot.invariant
    ]
