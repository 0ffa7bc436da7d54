use Rattle.std.proofs.Common.{ap, sym, ◌∙◌, is_some}
use Rattle.counter_table.proofs.InsertionEnds.{ended_by_key, end_below, end_fits, end_added, end_tracked}
use Rattle.counter_table.proofs.InsertionWrites.{wrote_by_key}
use Rattle.counter_table.proofs.slot_table.SlotTable.adjust.Goals as goal

pub find-probe-requires : goal.find-probe-requires
find-probe-requires g c = c.requires.slots

pub add_at-requires : goal.add_at-requires
add_at-requires g c =
    let at = ended_by_key g.T.Hash.hash_input (g.met.K.ItemKey.respects_hash c.args.key) (g.met.K.ItemKey.respects_eq c.args.key) c.args.self.now c.requires.slots c.find-probe.ensures.probe in
    record { index = end_below at; fits = end_fits at c.in-Some.is c.args.amount c.requires.fits }

pub returns-in-Some-clause-tracked : goal.returns-in-Some-clause-tracked
returns-in-Some-clause-tracked g c =
    let at = ended_by_key g.T.Hash.hash_input (g.met.K.ItemKey.respects_hash c.args.key) (g.met.K.ItemKey.respects_eq c.args.key) c.args.self.now c.requires.slots c.find-probe.ensures.probe in
    sym (end_tracked at ∙ ap is_some c.in-Some.is)

pub returns-in-Some-clause-slots : goal.returns-in-Some-clause-slots
returns-in-Some-clause-slots g c =
    let at = ended_by_key g.T.Hash.hash_input (g.met.K.ItemKey.respects_hash c.args.key) (g.met.K.ItemKey.respects_eq c.args.key) c.args.self.now c.requires.slots c.find-probe.ensures.probe in
    rw c.add_at.ensures.key (end_added at g.met.T.Eq.laws c.in-Some.is c.args.amount c.add_at.ensures.adds).slots_ok

pub returns-in-Some-clause-present : goal.returns-in-Some-clause-present
returns-in-Some-clause-present g c =
    let at = ended_by_key g.T.Hash.hash_input (g.met.K.ItemKey.respects_hash c.args.key) (g.met.K.ItemKey.respects_eq c.args.key) c.args.self.now c.requires.slots c.find-probe.ensures.probe in
    λ t x is. (wrote_by_key g.met.T.Eq.laws c.requires.slots (g.met.K.ItemKey.respects_eq c.args.key) at.probe c.in-Some.is c.args.amount c.add_at.ensures.adds x is).entries

pub returns-in-None-clause-tracked : goal.returns-in-None-clause-tracked
returns-in-None-clause-tracked g c =
    let at = ended_by_key g.T.Hash.hash_input (g.met.K.ItemKey.respects_hash c.args.key) (g.met.K.ItemKey.respects_eq c.args.key) c.args.self.now c.requires.slots c.find-probe.ensures.probe in
    sym (end_tracked at ∙ ap is_some c.in-None.is)
