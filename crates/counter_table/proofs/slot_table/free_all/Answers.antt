use Rattle.std.proofs.Common.{◌∙◌, ap, sym, [], ◌∷◌, take, arith, length, ◌<◌}
use Rattle.std.proofs.lemmas.List.{append-nil, take_all, take_more_set}
use Rattle.std.proofs.lemmas.List.Elements.{filter_map-append}
use Rattle.counter_table.specs.Slots.{entries_of, slot_entry}
use Rattle.counter_table.specs.declared.slot.Slot.TheVariants.{Free}
use borrow.Author.Rules.{scaled_Fits}
use Rattle.counter_table.proofs.slot_table.free_all.Goals as goal

pub loop-slot-preserved : goal.loop-slot-preserved
loop-slot-preserved g c =
    let i = c.loop-slot.slot-index in
    let below : i < length c.loop-slot.slots = omega (arith, c.loop-slot-test.true) in
    ap entries_of (take_more_set c.loop-slot.slots i Free below) ∙ filter_map-append slot_entry (take i c.loop-slot.slots) (Free ∷ []) ∙ append-nil (entries_of (take i c.loop-slot.slots)) ∙ c.loop-slot.invariant

-- the slice has room
pub offset_bounds-slots-slot-index : goal.offset_bounds-slots-slot-index
offset_bounds-slots-slot-index g c = scaled_Fits c.loop-slot.slot-index (length c.args.slots.now) _ c.loop-slot-test.true (search)

-- the walk came to the end
pub returns : goal.returns
returns g c = sym (ap entries_of (take_all c.loop-slot.slot-index c.loop-slot.slots (omega (arith, c.loop-slot-test.false, c.loop-slot.auto.slots)))) ∙ c.loop-slot.invariant
