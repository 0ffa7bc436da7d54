use Rattle.std.proofs.Common.{ap, sym, ◌∙◌, arith, length, refl}
use Rattle.std.proofs.lemmas.List.{append-nil, nil_from_length}
use Rattle.counter_table.proofs.WalkSteps.{index_within, progress}
use Rattle.counter_table.proofs.WalkSlots.{more_left, slot_stepped}
use Rattle.counter_table.proofs.LookupHomes.{some_size}
use Rattle.counter_table.proofs.reverse_purge_item_iter.ReversePurgeItemIterIterator.next.Goals as goal

pub invariant_of-self : goal.invariant_of-self
invariant_of-self g c =
    let i = c.walk.invariant in
    let more = more_left c.self.inside.slots.now c.walk.self-inside.stride c.walk.self-inside.probed c.walk.self-inside.left _ i.rest i.left i.some in
    let step = slot_stepped _ _ _ _ c.read_slot.result.now i.cursor more c.read_slot.ensures.value in
    let one = ap length (sym i.rest ∙ (rw c.in-Taken.is at step.rest)) in
    rw (i.same, c.read_slot.ensures.counted) (step.cursor, omega (arith, one, i.left))

pub returns-in-Taken-clause-steps : goal.returns-in-Taken-clause-steps
returns-in-Taken-clause-steps g c =
    let i = c.walk.invariant in
    let more = more_left c.self.inside.slots.now c.walk.self-inside.stride c.walk.self-inside.probed c.walk.self-inside.left _ i.rest i.left i.some in
    let step = slot_stepped _ _ _ _ c.read_slot.result.now i.cursor more c.read_slot.ensures.value in
    rw (i.same, c.read_slot.ensures.counted) (sym i.rest ∙ (rw c.in-Taken.is at step.rest), rw (← i.given) (rw c.in-Taken.is at step.given), i.size, omega (arith, i.probed))

pub returns-in-Taken-clause-goes : goal.returns-in-Taken-clause-goes
returns-in-Taken-clause-goes g c = progress (λ walk. walk.rest) _ _ _ _ (returns-in-Taken-clause-steps g c).0

pub walk-preserved : goal.walk-preserved
walk-preserved g c =
    let i = c.walk.invariant in
    let more = more_left c.self.inside.slots.now c.walk.self-inside.stride c.walk.self-inside.probed c.walk.self-inside.left _ i.rest i.left i.some in
    let step = slot_stepped _ _ _ _ c.read_slot.result.now i.cursor more c.read_slot.ensures.value in
    rw c.read_slot.ensures.counted (record {
      cursor = step.cursor;
      same = i.same;
      given = rw c.in_default.is at step.given ∙ append-nil _ ∙ i.given;
      rest = sym (rw c.in_default.is at step.rest) ∙ i.rest;
      left = i.left;
      some = i.some;
      size = i.size;
      probed = omega (arith, i.probed);
    })

pub read_slot-requires-clause-index : goal.read_slot-requires-clause-index
read_slot-requires-clause-index g c =
    let i = c.walk.invariant in
    let more = more_left c.self.inside.slots.now c.walk.self-inside.stride c.walk.self-inside.probed c.walk.self-inside.left _ i.rest i.left i.some in
    index_within (length c.self.inside.slots.now) c.walk.self-inside.stride c.walk.self-inside.probed c.walk.self-inside.index i.cursor more

pub read_slot-requires-clause-probed : goal.read_slot-requires-clause-probed
read_slot-requires-clause-probed g c =
    let i = c.walk.invariant in
    let more = more_left c.self.inside.slots.now c.walk.self-inside.stride c.walk.self-inside.probed c.walk.self-inside.left _ i.rest i.left i.some in
    omega (arith, more, i.cursor.size_ok.limit)

pub walk-init : goal.walk-init
walk-init g c =
    let view = c.self.view_is in
    record {
      cursor = c.self.invariant.0;
      same = refl;
      given = ap (λ walk. walk.given) view;
      rest = ap (λ walk. walk.rest) view;
      left = c.self.invariant.1 ∙ ap (λ walk. length walk.rest) view;
      some = omega (arith, c.if-self-eq0.false);
      size = ap (λ walk. walk.size) view;
      probed = omega (arith, ap (λ walk. walk.probed) view);
    }

pub walk-smaller : goal.walk-smaller
walk-smaller g c =
    let i = c.walk.invariant in
    let more = more_left c.self.inside.slots.now c.walk.self-inside.stride c.walk.self-inside.probed c.walk.self-inside.left _ i.rest i.left i.some in
    omega (arith, more, c.read_slot.ensures.counted)

pub overflow_sub-self : goal.overflow_sub-self
overflow_sub-self g c = some_size _ c.walk.invariant.cursor.size_ok

pub overflow_add-self : goal.overflow_add-self
overflow_add-self g c =
    let i = c.walk.invariant in
    let more = more_left c.self.inside.slots.now c.walk.self-inside.stride c.walk.self-inside.probed c.walk.self-inside.left _ i.rest i.left i.some in
    omega (arith, index_within _ _ _ _ i.cursor more, i.cursor.size_ok.limit, i.cursor.stride_small)

pub overflow_sub-self-in-Taken : goal.overflow_sub-self-in-Taken
overflow_sub-self-in-Taken g c = c.walk.invariant.some

-- no entry is left
pub returns-then-self-eq0 : goal.returns-then-self-eq0
returns-then-self-eq0 g c =
    let none = nil_from_length c.args.self.now.rest (sym (c.self.invariant.1 ∙ ap (λ walk. length walk.rest) c.self.view_is) ∙ c.if-self-eq0.true) in
    record {
      steps = ((none, none), sym (append-nil _), refl, refl);
      goes = record { on = λ _. tt; keeps = tt; rests = λ _. tt };
    }
