use Rattle.std.proofs.Common.{ℕ, ◌∙◌, sym, ap}
use Rattle.std.proofs.lemmas.List.{take_all}
use Rattle.counter_table.specs.Slots.{entries_of}
use Rattle.sketch_frequencies.specs.Memory.{owned_by, memory_bytes}
use Rattle.sketch_frequencies.proofs.OwnedBytes.{memory_taken, memory_passed}
use Rattle.sketch_frequencies.proofs.image.bytes_with_items.Goals as goal
use Rattle.sketch_frequencies.proofs.image.bytes_with_items.Goals.{in-Taken, in_default}

pub loop-slot-preserved : goal.loop-slot-preserved
loop-slot-preserved g c =
    let codec = g.T.FrequentItemValue.codec in
    let content = g.T.FrequentItemValue.content in
    let slots = c.args.slots.now in
    let i = c.loop-slot.slot-index in
    elim c.match-slot.branch [
      | in-Taken w ↦
          let t = w.in-Taken in
          memory_taken codec content c.args.table_bytes slots i t.drift t.count c.loop-slot.bytes _ t.item c.slot-item.result c.loop-slot-test.true (sym c.slot-item.is ∙ t.is) c.loop-slot.invariant (w.bytes-is ∙ w.saturating_add-bytes.ensures ∙ ap (λ (n : ℕ). memory_bytes c.loop-slot.bytes n) w.owned_bytes.ensures)
      | in_default w ↦
          memory_passed codec content c.args.table_bytes slots i c.loop-slot.bytes _ c.slot-item.result c.loop-slot-test.true (sym c.slot-item.is ∙ w.in_default.is) c.loop-slot.invariant w.bytes-is
    ]

pub returns : goal.returns
returns g c =
    let slots = c.args.slots.now in
    c.loop-slot.invariant ∙ ap (λ slots. memory_bytes c.args.table_bytes (owned_by g.T.FrequentItemValue.codec g.T.FrequentItemValue.content (entries_of slots))) (take_all c.loop-slot.slot-index slots c.loop-slot-test.false)
