use Rattle.std.proofs.Common.{arith, length}
use Rattle.counter_table.specs.TableHashes.{hash_in}
use Rattle.counter_table.proofs.PurgeSweeps.{sweep_starts, turn_index, sweep_turn, turn_drift, sweep_ends, sweep_few}
use Rattle.counter_table.proofs.slot_table.purges.sweep.Goals as goal
use Rattle.counter_table.proofs.slot_table.purges.sweep.Goals.{then-settle, else-settle}

pub loop-on-init : goal.loop-on-init
loop-on-init g c = record {
  sweep = sweep_starts g.T.PartialEq.eq (hash_in c.args.key.now g.T.Hash.hash_input) c.args.amount c.args.slots.now c.last_free-free.result c.requires.slots c.last_free-free.ensures.below c.last_free-free.ensures.free;
  fingerprints_ok = c.requires.fingerprints;
}

pub settle-requires-clause-index : goal.settle-requires-clause-index
settle-requires-clause-index g c =
    let w = c.loop-on.invariant.sweep in
    let at = turn_index (length c.args.slots.now) c.last_free-free.result c.loop-on.on c.after-index.result w.below c.loop-on-test.true c.after-index.ensures in
    omega (arith, at.0, w.long)

pub settle-requires-clause-drift : goal.settle-requires-clause-drift
settle-requires-clause-drift g c =
    let w = c.loop-on.invariant.sweep in
    let at = turn_index (length c.args.slots.now) c.last_free-free.result c.loop-on.on c.after-index.result w.below c.loop-on-test.true c.after-index.ensures in
    turn_drift g.met.T.Eq.laws (hash_in c.args.key.now g.T.Hash.hash_input) c.args.amount c.args.slots.now c.loop-on.slots c.last_free-free.result c.loop-on.on c.loop-on.removed c.after-index.result c.requires.slots w at.0 at.1

pub overflow_add-removed : goal.overflow_add-removed
overflow_add-removed g c = omega (arith, sweep_few c.loop-on.invariant.sweep, c.requires.slots.room, c.requires.slots.size.limit)

pub loop-on-preserved : goal.loop-on-preserved
loop-on-preserved g c =
    let w = c.loop-on.invariant.sweep in
    let at = turn_index (length c.args.slots.now) c.last_free-free.result c.loop-on.on c.after-index.result w.below c.loop-on-test.true c.after-index.ensures in
    let turn = sweep_turn g.met.T.Eq.laws (hash_in c.args.key.now g.T.Hash.hash_input) c.args.amount c.args.slots.now c.loop-on.slots c.last_free-free.result c.loop-on.on c.loop-on.removed c.after-index.result c.requires.slots w at.0 at.1 c.settle.result c.settle.new.slots c.settle.ensures.slots in
    elim c.if-settle.branch [
      | then-settle v ↦ rw v.removed-is (record { sweep = turn.0 v.if-settle.true; fingerprints_ok = c.settle.ensures.fingerprints })
      | else-settle v ↦ rw v.removed-is (record { sweep = turn.1 v.if-settle.false; fingerprints_ok = c.settle.ensures.fingerprints })
    ]

pub returns-clause-slots : goal.returns-clause-slots
returns-clause-slots g c = (sweep_ends c.loop-on.invariant.sweep c.loop-on-test.false).0

pub returns-clause-entries : goal.returns-clause-entries
returns-clause-entries g c = (sweep_ends c.loop-on.invariant.sweep c.loop-on-test.false).1

pub returns-clause-removed : goal.returns-clause-removed
returns-clause-removed g c = (sweep_ends c.loop-on.invariant.sweep c.loop-on-test.false).2

pub settle-requires-clause-size : goal.settle-requires-clause-size
settle-requires-clause-size g c = rw c.loop-on.auto.slots c.requires.slots.size

pub settle-requires-clause-fingerprints : goal.settle-requires-clause-fingerprints
settle-requires-clause-fingerprints g c = c.loop-on.invariant.fingerprints_ok
