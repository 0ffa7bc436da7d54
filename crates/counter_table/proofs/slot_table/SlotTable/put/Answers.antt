use Rattle.std.proofs.Common.{ap, ◌∙◌, is_some}
use Rattle.counter_table.proofs.InsertionEnds.{ended_item, end_below, end_fits, end_added, end_free, end_tracked}
use Rattle.counter_table.proofs.InsertionWrites.{wrote_found}
use Rattle.counter_table.proofs.slot_table.SlotTable.put.Goals as goal

pub find-probe-requires : goal.find-probe-requires
find-probe-requires g c = c.requires.slots

pub add_at-requires : goal.add_at-requires
add_at-requires g c =
    let at = ended_item g.met.T.Eq.laws g.met.T.Hash.respects_eq c.args.item c.args.self.now c.requires.slots c.find-probe.ensures.probe in
    record { index = end_below at; fits = end_fits at c.in-Some.is c.args.amount c.requires.fits }

pub fill-requires : goal.fill-requires
fill-requires g c =
    let at = ended_item g.met.T.Eq.laws g.met.T.Hash.respects_eq c.args.item c.args.self.now c.requires.slots c.find-probe.ensures.probe in
    let goes = end_free at c.in-None.is c.args.item (g.met.T.Eq.laws.refl c.args.item) c.requires.room c.find-probe.result.hash c.find-probe.ensures.hash in
    record { slots = c.requires.slots; absent = goes.absent; room = goes.room; free = goes.free; hash = goes.hash_is }

pub returns-in-Some-clause-tracked : goal.returns-in-Some-clause-tracked
returns-in-Some-clause-tracked g c =
    let at = ended_item g.met.T.Eq.laws g.met.T.Hash.respects_eq c.args.item c.args.self.now c.requires.slots c.find-probe.ensures.probe in
    end_tracked at ∙ ap is_some c.in-Some.is

pub returns-in-Some-clause-slots : goal.returns-in-Some-clause-slots
returns-in-Some-clause-slots g c =
    let at = ended_item g.met.T.Eq.laws g.met.T.Hash.respects_eq c.args.item c.args.self.now c.requires.slots c.find-probe.ensures.probe in
    rw c.add_at.ensures.key (end_added at g.met.T.Eq.laws c.in-Some.is c.args.amount c.add_at.ensures.adds).slots_ok

pub returns-in-Some-clause-entries : goal.returns-in-Some-clause-entries
returns-in-Some-clause-entries g c =
    let at = ended_item g.met.T.Eq.laws g.met.T.Hash.respects_eq c.args.item c.args.self.now c.requires.slots c.find-probe.ensures.probe in
    (wrote_found g.met.T.Eq.laws c.requires.slots at.probe c.in-Some.is c.args.amount c.add_at.ensures.adds).entries

pub returns-in-None-clause-tracked : goal.returns-in-None-clause-tracked
returns-in-None-clause-tracked g c =
    let at = ended_item g.met.T.Eq.laws g.met.T.Hash.respects_eq c.args.item c.args.self.now c.requires.slots c.find-probe.ensures.probe in
    end_tracked at ∙ ap is_some c.in-None.is
