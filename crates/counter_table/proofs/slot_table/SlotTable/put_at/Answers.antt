use Rattle.std.proofs.Common.{ap, sym, ◌∙◌, is_some}
use Rattle.std.proofs.lemmas.Bool.{false≢true}
use Rattle.counter_table.proofs.InsertionEnds.{ended_by_key, end_below, end_fits, end_added, end_free, end_tracked}
use Rattle.counter_table.proofs.slot_table.SlotTable.put_at.Goals as goal

pub add_at-requires : goal.add_at-requires
add_at-requires g c =
    let at = ended_by_key g.T.Hash.hash_input (g.met.K.ItemKey.respects_hash c.args.key) (g.met.K.ItemKey.respects_eq c.args.key) c.args.self.now c.requires.slots c.requires.probe in
    record { index = end_below at; fits = end_fits at c.in-Some.is c.args.amount c.requires.fits }

pub fill-requires : goal.fill-requires
fill-requires g c =
    let item = c.in_ok-item-in-None in
    let at = ended_by_key g.T.Hash.hash_input (g.met.K.ItemKey.respects_hash c.args.key) (g.met.K.ItemKey.respects_eq c.args.key) c.args.self.now c.requires.slots c.requires.probe in
    let goes = end_free at c.in-None.is item.item item.ensures.named c.requires.room c.args.probe.hash c.requires.hash in
    record { slots = c.requires.slots; absent = goes.absent; room = goes.room; free = goes.free; hash = goes.hash_is }

pub returns-in-Some-clause-tracked : goal.returns-in-Some-clause-tracked
returns-in-Some-clause-tracked g c =
    let at = ended_by_key g.T.Hash.hash_input (g.met.K.ItemKey.respects_hash c.args.key) (g.met.K.ItemKey.respects_eq c.args.key) c.args.self.now c.requires.slots c.requires.probe in
    end_tracked at ∙ ap is_some c.in-Some.is

pub returns-in-Some-clause-slots : goal.returns-in-Some-clause-slots
returns-in-Some-clause-slots g c =
    let at = ended_by_key g.T.Hash.hash_input (g.met.K.ItemKey.respects_hash c.args.key) (g.met.K.ItemKey.respects_eq c.args.key) c.args.self.now c.requires.slots c.requires.probe in
    rw c.add_at.ensures.key (end_added at g.met.T.Eq.laws c.in-Some.is c.args.amount c.add_at.ensures.adds).slots_ok

pub returns-in-Some-clause-entries : goal.returns-in-Some-clause-entries
returns-in-Some-clause-entries g c =
    let at = ended_by_key g.T.Hash.hash_input (g.met.K.ItemKey.respects_hash c.args.key) (g.met.K.ItemKey.respects_eq c.args.key) c.args.self.now c.requires.slots c.requires.probe in
    (end_added at g.met.T.Eq.laws c.in-Some.is c.args.amount c.add_at.ensures.adds).puts

pub returns-in_ok-item-in-None-clause-tracked : goal.returns-in_ok-item-in-None-clause-tracked
returns-in_ok-item-in-None-clause-tracked g c =
    let at = ended_by_key g.T.Hash.hash_input (g.met.K.ItemKey.respects_hash c.args.key) (g.met.K.ItemKey.respects_eq c.args.key) c.args.self.now c.requires.slots c.requires.probe in
    end_tracked at ∙ ap is_some c.in-None.is

pub returns-in_ok-item-in-None-clause-entries : goal.returns-in_ok-item-in-None-clause-entries
returns-in_ok-item-in-None-clause-entries g c =
    let item = c.in_ok-item-in-None in
    record { item = item.item; named = item.ensures.named; entries = c.fill.ensures.entries }

-- a key that names a tracked item needs no new one
pub returns-in_err-item-in-None-clause-succeeds : goal.returns-in_err-item-in-None-clause-succeeds
returns-in_err-item-in-None-clause-succeeds g c =
    let at = ended_by_key g.T.Hash.hash_input (g.met.K.ItemKey.respects_hash c.args.key) (g.met.K.ItemKey.respects_eq c.args.key) c.args.self.now c.requires.slots c.requires.probe in
    λ there. absurd (false≢true (sym (end_tracked at ∙ ap is_some c.in-None.is) ∙ there))
