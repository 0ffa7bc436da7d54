use Rattle.std.proofs.Common.{◌≡◌, ◌∙◌, take, sym, subst, Err, arith}
use Rattle.std.proofs.lemmas.List.{take_all}
use Rattle.std.proofs.lemmas.Result.{err_from_is_err_and}
use Rattle.counter_table.specs.Slots.{entries_of}
use Rattle.sketch_frequencies.proofs.ImageSizes.{TakeSoFar, size_more}
use Rattle.sketch_frequencies.proofs.SlotEntries.{entries_passed}
use Rattle.sketch_frequencies.proofs.Spellings.{ok_and, any_entry}
use Rattle.sketch_frequencies.proofs.image.sum_of_sizes.Goals as goal
use Rattle.sketch_frequencies.proofs.image.sum_of_sizes.Goals.{in-Taken+in_ok-checked_serialize_size, in_default}

pub returns-in_err-checked_serialize_size-clause-err : goal.returns-in_err-checked_serialize_size-clause-err
returns-in_err-checked_serialize_size-clause-err g c =
    let p = err_from_is_err_and c.from_residual.result c.from_residual.ensures.1 in
    let codec = g.T.FrequentItemValue.codec in
    let content = g.T.FrequentItemValue.content in
    let t = c.in-Taken in
    let h = c.in_err-checked_serialize_size.ensures.err in
    rw (p.1, p.2) (h.0, any_entry (λ e. codec.encoding (content e.0) ≡ Err c.in_err-checked_serialize_size.field-0.0.fault) c.loop-slot.slot-index c.args.slots.now t.drift t.count t.item c.slot-item.result c.loop-slot-test.true (sym c.slot-item.is ∙ t.is) h.1)

pub loop-slot-preserved : goal.loop-slot-preserved
loop-slot-preserved g c =
    let codec = g.T.FrequentItemValue.codec in
    let content = g.T.FrequentItemValue.content in
    let slots = c.args.slots.now in
    let i = c.loop-slot.slot-index in
    elim c.match-slot.branch [
      | in-Taken+in_ok-checked_serialize_size w ↦
          let t = w.in-Taken in
          let one = ok_and (codec.encoding (content t.item)) w.in_ok-checked_serialize_size.ensures.ok in
          size_more codec content slots i t.drift t.count t.item c.slot-item.result c.loop-slot.size _ c.match-slot.size one.0 c.loop-slot-test.true (sym c.slot-item.is ∙ t.is) one.1 one.2 (w.size-is ∙ w.saturating_add-size.ensures) c.loop-slot.invariant
      | in_default w ↦ rw (entries_passed slots i c.slot-item.result c.loop-slot-test.true (sym c.slot-item.is ∙ w.in_default.is), w.size-is) c.loop-slot.invariant
    ]

pub returns-clause-ok : goal.returns-clause-ok
returns-clause-ok g c =
    let slots = c.args.slots.now in
    let all : take c.loop-slot.slot-index slots ≡ slots = take_all c.loop-slot.slot-index slots (omega (arith, c.loop-slot-test.false)) in
    subst (λ l. TakeSoFar g.T.FrequentItemValue.codec g.T.FrequentItemValue.content (entries_of l) c.loop-slot.size) all c.loop-slot.invariant
