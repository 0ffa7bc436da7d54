use Rattle.std.proofs.Common.{◌≡◌, ap, sym, ◌∙◌, arith, Some, None}
use Rattle.std.proofs.lemmas.List.{get_or_default}
use Rattle.counter_table.specs.Slots.{Held, held, slot_at}
use Rattle.counter_table.specs.declared.slot.Slot.TheVariants.{Free}
use Rattle.counter_table.proofs.LookupProbes.{IsCountAt-found, IsCountAt-other}
use Rattle.counter_table.proofs.fingerprints.count_at.Goals as goal

pub returns-then-seen-fingerprint : goal.returns-then-seen-fingerprint
returns-then-seen-fingerprint g c = IsCountAt-other _ _ _ (c.requires.other (λ same. c.if-seen-fingerprint.true (same ∙ sym c.fingerprint.ensures)))

pub returns-then-names : goal.returns-then-names
returns-then-names g c =
    let s : Held g.row.T.Denot = record { item = c.in-Taken.there; count = c.in-Taken.count; drift = c.in-Taken.drift } in
    let at : slot_at c.args.slots.now c.args.index ≡ Some s = ap held (get_or_default c.args.slots.now c.args.index Free c.index-slots-index.result c.requires.index ∙ (sym c.index-slots-index.is ∙ c.in-Taken.is)) in
    IsCountAt-found _ _ _ s at (sym c.names.ensures ∙ c.if-names.true)

pub offset_bounds-slots-index : goal.offset_bounds-slots-index
offset_bounds-slots-index g c = omega (arith, c.requires.index)

-- the slot is free
pub returns-in_default : goal.returns-in_default
returns-in_default g c =
    let at : slot_at c.args.slots.now c.args.index ≡ None = ap held (get_or_default c.args.slots.now c.args.index Free c.index-slots-index.result c.requires.index ∙ (sym c.index-slots-index.is ∙ c.in_default.is)) in
    IsCountAt-other _ _ _ (λ s e. let both : None ≡ Some s = sym at ∙ e in cc)
