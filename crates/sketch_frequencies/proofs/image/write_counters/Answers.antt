use Rattle.std.proofs.Common.{◌≡◌, ◌+◌, ◌-◌, ◌<◌, ℕ, List, length, take, drop, sym, ap, subst, ◌∙◌, arith, [], ◌∷◌, length-append, length-take, length-drop}
use Rattle.std.specs.Int.{w64, to_le_bytes}
use Rattle.std.proofs.lemmas.List.{take_all}
use Rattle.std.proofs.lemmas.Slice.{take-put_mid}
use Rattle.counter_table.specs.Slots.{entries_of}
use Rattle.sketch_frequencies.specs.Image.{AreEncoded, contents_of}
use Rattle.sketch_frequencies.proofs.ImageGathering.{weight_long, weight_more}
use Rattle.sketch_frequencies.proofs.ImageSizes.{encoded_alike, encoded_next, encoded_more, weight_next, size_is}
use Rattle.sketch_frequencies.proofs.SlotEntries.{entries_taken, entries_passed}
use Rattle.sketch_frequencies.proofs.image.write_counters.Goals as goal
use Rattle.sketch_frequencies.proofs.image.write_counters.Goals.{in-Taken, in_default}

pub overflow_add-i : goal.overflow_add-i
overflow_add-i g c =
    let t = c.in-Taken in
    let next = weight_next g.T.FrequentItemValue.codec g.T.FrequentItemValue.content c.args.slots.now c.loop-slot.slot-index t.drift t.count t.item c.slot-item.result c.loop-slot-test.true (sym c.slot-item.is ∙ t.is) in
    omega (arith, next, c.loop-slot.invariant.many, c.requires.weights)

pub slice_bounds-copy_from_slice-end : goal.slice_bounds-copy_from_slice-end
slice_bounds-copy_from_slice-end g c =
    let t = c.in-Taken in
    let next = weight_next g.T.FrequentItemValue.codec g.T.FrequentItemValue.content c.args.slots.now c.loop-slot.slot-index t.drift t.count t.item c.slot-item.result c.loop-slot-test.true (sym c.slot-item.is ∙ t.is) in
    omega (arith, next, c.loop-slot.invariant.many, c.requires.weights, c.loop-slot.auto.weights)

pub slice_bounds-serialize_into-end : goal.slice_bounds-serialize_into-end
slice_bounds-serialize_into-end g c =
    let codec = g.T.FrequentItemValue.codec in
    let content = g.T.FrequentItemValue.content in
    let t = c.in-Taken in
    let n = encoded_next codec content c.args.slots.now c.loop-slot.slot-index t.drift t.count t.item c.slot-item.result _ _ c.loop-slot-test.true (sym c.slot-item.is ∙ t.is) c.requires.items c.loop-slot.invariant.items in
    omega (arith, n.2, size_is codec (content t.item) c.serialize_size-size.result n.0 n.1 c.serialize_size-size.ensures, length-take c.loop-slot.at c.loop-slot.items, c.loop-slot.invariant.within, c.loop-slot.auto.items)

pub overflow_add-at : goal.overflow_add-at
overflow_add-at g c =
    let codec = g.T.FrequentItemValue.codec in
    let content = g.T.FrequentItemValue.content in
    let t = c.in-Taken in
    let n = encoded_next codec content c.args.slots.now c.loop-slot.slot-index t.drift t.count t.item c.slot-item.result _ _ c.loop-slot-test.true (sym c.slot-item.is ∙ t.is) c.requires.items c.loop-slot.invariant.items in
    omega (arith, n.2, size_is codec (content t.item) c.serialize_size-size.result n.0 n.1 c.serialize_size-size.ensures, length-take c.loop-slot.at c.loop-slot.items, c.loop-slot.invariant.within, c.loop-slot.auto.items)

pub serialize_into-requires : goal.serialize_into-requires
serialize_into-requires g c =
    let codec = g.T.FrequentItemValue.codec in
    let content = g.T.FrequentItemValue.content in
    let t = c.in-Taken in
    let n = encoded_next codec content c.args.slots.now c.loop-slot.slot-index t.drift t.count t.item c.slot-item.result _ _ c.loop-slot-test.true (sym c.slot-item.is ∙ t.is) c.requires.items c.loop-slot.invariant.items in
    let size : ℕ = c.serialize_size-size.result in
    rw n.1 (omega (arith, n.2, size_is codec (content t.item) size n.0 n.1 c.serialize_size-size.ensures, length-take c.loop-slot.at c.loop-slot.items, length-take (c.loop-slot.at + size - c.loop-slot.at) (drop c.loop-slot.at c.loop-slot.items), length-drop c.loop-slot.at c.loop-slot.items, c.loop-slot.invariant.within, c.loop-slot.auto.items))

pub loop-slot-preserved : goal.loop-slot-preserved
loop-slot-preserved g c =
    let codec = g.T.FrequentItemValue.codec in
    let content = g.T.FrequentItemValue.content in
    let slots = c.args.slots.now in
    let i : ℕ = c.loop-slot.slot-index in
    let before : List ℕ = c.loop-slot.weights in
    let items : List ℕ = c.loop-slot.items in
    elim c.match-slot.branch [
      | in-Taken w ↦
          let t = w.in-Taken in
          let is = sym c.slot-item.is ∙ t.is in
          let lt : i < length slots = c.loop-slot-test.true in
          let bytes : List ℕ = w.copy_from_slice.new.self in
          let bytes_are : bytes ≡ to_le_bytes w64 t.count = w.copy_from_slice.ensures.after ∙ w.to_le_bytes.ensures in
          let long : length bytes ≡ 8 = weight_long t.count bytes bytes_are in
          let weight = weight_next codec content slots i t.drift t.count t.item c.slot-item.result lt is in
          let n = encoded_next codec content slots i t.drift t.count t.item c.slot-item.result _ _ lt is c.requires.items c.loop-slot.invariant.items in
          let size : ℕ = w.serialize_size-size.result in
          let size_of = size_is codec (content t.item) size n.0 n.1 w.serialize_size-size.ensures in
          let item : List ℕ = w.serialize_into.new.out in
          let item_size = size_is codec (content t.item) size item w.serialize_into.ensures w.serialize_size-size.ensures in
          record {
            many = omega (arith, w.i-is, c.loop-slot.invariant.many, ap length (entries_taken slots i t.drift t.count t.item c.slot-item.result lt is), length-append (entries_of (take i slots)) ((t.item, t.count) ∷ []));
            weights = rw (w.weights-is, w.i-is) (weight_more i slots t.drift t.count t.item c.slot-item.result (take c.loop-slot.i before) _ bytes lt is c.loop-slot.invariant.weights bytes_are (take-put_mid c.loop-slot.i (c.loop-slot.i + 8 - c.loop-slot.i) before bytes (c.loop-slot.i + 8) (omega (arith, long)) (omega (arith, weight, c.loop-slot.invariant.many, c.requires.weights, c.loop-slot.auto.weights))));
            within = omega (arith, w.at-is, n.2, size_of, length-take c.loop-slot.at items, c.loop-slot.invariant.within, c.loop-slot.auto.items, c.match-slot.auto.items);
            items = rw (w.items-is, w.at-is) (encoded_more codec content slots i t.drift t.count t.item c.slot-item.result (take c.loop-slot.at items) item _ lt is w.serialize_into.ensures c.loop-slot.invariant.items (take-put_mid c.loop-slot.at (c.loop-slot.at + size - c.loop-slot.at) items item (c.loop-slot.at + size) (omega (arith, item_size)) c.loop-slot.invariant.within));
          }
      | in_default w ↦
          let none = entries_passed slots i c.slot-item.result c.loop-slot-test.true (sym c.slot-item.is ∙ w.in_default.is) in
          rw (none, w.weights-is, w.items-is, w.i-is, w.at-is) c.loop-slot.invariant
    ]

pub returns-clause-items : goal.returns-clause-items
returns-clause-items g c =
    let codec = g.T.FrequentItemValue.codec in
    let slots = c.args.slots.now in
    let es = contents_of g.T.FrequentItemValue.content (entries_of slots) in
    let all : take c.loop-slot.slot-index slots ≡ slots = take_all c.loop-slot.slot-index slots c.loop-slot-test.false in
    let done = subst (λ l. AreEncoded codec (contents_of g.T.FrequentItemValue.content (entries_of l)) (take c.loop-slot.at c.loop-slot.items)) all c.loop-slot.invariant.items in
    let same = ap length (encoded_alike codec es (take c.loop-slot.at c.loop-slot.items) c.requires.items.0 done c.requires.items.1) in
    let whole : take c.loop-slot.at c.loop-slot.items ≡ c.loop-slot.items = take_all c.loop-slot.at c.loop-slot.items (omega (arith, same, length-take c.loop-slot.at c.loop-slot.items, c.loop-slot.invariant.within, c.requires.items.2, c.loop-slot.auto.items)) in
    subst (λ l. AreEncoded codec es l) whole done
