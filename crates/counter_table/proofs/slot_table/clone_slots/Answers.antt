use Rattle.std.proofs.Common.{arith, ap, sym, ◌∙◌, ◌++◌, ◌∷◌, [], take, length-take, refl}
use Rattle.std.proofs.lemmas.List.{take_all, take_more}
use Rattle.std.proofs.lemmas.List.Elements.{AllZip-push}
use Rattle.std.proofs.lemmas.Result.{err_from_is_err_and}
use Rattle.std.proofs.lemmas.Slice.Zip.{AllZip-long}
use Rattle.counter_table.specs.Slots.{IsSameSlot}
use Rattle.counter_table.specs.declared.slot.Slot.TheVariants.{Free, Taken}
use Rattle.counter_table.proofs.slot_table.clone_slots.Goals as goal
use Rattle.counter_table.proofs.slot_table.clone_slots.Goals.{in-Taken+in_ok-clone-in-Taken, in-Free}

pub loop-slot-preserved : goal.loop-slot-preserved
loop-slot-preserved g c =
    let R = IsSameSlot g.T.PartialEq.eq in
    let xs = c.args.slots.now in
    let i = c.loop-slot.slot-index in
    let e = c.slot-item.result in
    let more = take_more xs i e c.loop-slot-test.true ∙ ap (λ x. take i xs ++ x ∷ []) (sym c.slot-item.is) in
    elim c.match-slot.branch [
      | in-Taken+in_ok-clone-in-Taken w ↦
          let t = w.in-Taken in
          let y = w.in_ok-clone-in-Taken.field-0 in
          record {
            same = rw (more, c.push_reserved.ensures.items, w.clone-is, t.is) (AllZip-push R (take i xs) c.loop-slot.clones.items (Taken t.drift t.count t.item) (Taken t.drift t.count y) c.loop-slot.invariant.same (refl, refl, g.met.T.EqualClone.clones_equal t.item y w.in_ok-clone-in-Taken.ensures.cases));
            room = omega (arith, c.loop-slot.invariant.room, c.push_reserved.ensures.capacity);
          }
      | in-Free w ↦ record {
        same = rw (more, c.push_reserved.ensures.items, w.clone-is, w.in-Free.is) (AllZip-push R (take i xs) c.loop-slot.clones.items Free Free c.loop-slot.invariant.same tt);
        room = omega (arith, c.loop-slot.invariant.room, c.push_reserved.ensures.capacity);
      }
    ]

pub loop-slot-init : goal.loop-slot-init
loop-slot-init g c = record { same = rw c.in_ok-clones.ensures.items tt; room = omega (arith, c.in_ok-clones.ensures.capacity) }

pub push_reserved-requires : goal.push_reserved-requires
push_reserved-requires g c =
    let i = c.loop-slot.slot-index in
    let many = AllZip-long (IsSameSlot g.T.PartialEq.eq) (take i c.args.slots.now) c.loop-slot.clones.items c.loop-slot.invariant.same in
    omega (arith, many, length-take i c.args.slots.now, c.loop-slot.clones.ok.0, c.loop-slot.invariant.room, c.loop-slot-test.true)

pub returns-in_err-clones-clause-ok : goal.returns-in_err-clones-clause-ok
returns-in_err-clones-clause-ok g c = rw (err_from_is_err_and c.from_residual.result c.from_residual.ensures.1).1 tt

pub returns-in_err-clones-clause-err : goal.returns-in_err-clones-clause-err
returns-in_err-clones-clause-err g c =
    let e = err_from_is_err_and c.from_residual.result c.from_residual.ensures.1 in
    rw e.1 e.2

pub returns-in_err-clone-in-Taken-clause-ok : goal.returns-in_err-clone-in-Taken-clause-ok
returns-in_err-clone-in-Taken-clause-ok g c = rw (err_from_is_err_and c.from_residual-in_err-clone-in-Taken.result c.from_residual-in_err-clone-in-Taken.ensures.1).1 tt

pub returns-in_err-clone-in-Taken-clause-err : goal.returns-in_err-clone-in-Taken-clause-err
returns-in_err-clone-in-Taken-clause-err g c =
    let e = err_from_is_err_and c.from_residual-in_err-clone-in-Taken.result c.from_residual-in_err-clone-in-Taken.ensures.1 in
    rw e.1 e.2

pub returns-clause-ok : goal.returns-clause-ok
returns-clause-ok g c = rw (take_all c.loop-slot.slot-index c.args.slots.now c.loop-slot-test.false) at c.loop-slot.invariant.same
