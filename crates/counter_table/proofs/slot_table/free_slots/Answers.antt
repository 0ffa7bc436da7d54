use Rattle.std.proofs.Common.{arith, ◌≡◌, ◌∙◌, ap, replicate}
use Rattle.std.proofs.lemmas.List.{replicate_more}
use Rattle.counter_table.specs.declared.slot.Slot.TheVariants.{Free}
use Rattle.counter_table.proofs.slot_table.free_slots.Goals as goal

pub loop-init : goal.loop-init
loop-init g c = record { items = c.in_ok-slots.ensures.items; len = c.in_ok-slots.ensures.len; room = omega (arith, c.in_ok-slots.ensures.capacity) }

pub loop-preserved : goal.loop-preserved
loop-preserved g c = record {
  items = rw (c.push_reserved.ensures.items, c.loop.invariant.items) (replicate_more c.loop.counter Free);
  len = omega (arith, c.push_reserved.ensures.len, c.loop.invariant.len);
  room = omega (arith, c.push_reserved.ensures.capacity, c.loop.invariant.room);
}

pub push_reserved-requires : goal.push_reserved-requires
push_reserved-requires g c = omega (arith, c.loop.invariant.len, c.loop.invariant.room, c.loop-test.true)

pub returns-clause-ok : goal.returns-clause-ok
returns-clause-ok g c =
    let all : c.loop.counter ≡ c.args.size = omega (arith, c.loop-test.false, c.loop.auto.counter-end) in
    c.loop.invariant.items ∙ ap (λ n. replicate n Free) all
