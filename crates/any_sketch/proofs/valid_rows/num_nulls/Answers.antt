use Rattle.std.proofs.Common.{◌+◌, ◌≤◌, length, length-drop, drop, arith}
use Rattle.std.proofs.lemmas.Grind.{common_steps}
use Rattle.any_sketch.proofs.Spreading.{few_valid, no_more, one_more}
use Rattle.any_sketch.proofs.valid_rows.num_nulls.Goals.{then-not-next_is_set, else-not-next_is_set}
use Rattle.any_sketch.proofs.valid_rows.num_nulls.Goals as goal

-- the row is one more null, or one more valid row
pub each-preserved : goal.each-preserved
each-preserved g c = elim c.if-not-next_is_set.branch [
  | then-not-next_is_set w ↦
      let none = no_more c.each.bits c.next_is_set.new.self c.args.results.now c.each.counter c.each-test.true (c.next_is_set.ensures.unset w.if-not-next_is_set.true) in
      omega (arith, none, w.count-is, c.each.invariant)
  | else-not-next_is_set w ↦
      let one = one_more c.each.bits c.next_is_set.new.self c.args.results.now c.each.counter c.each-test.true (c.next_is_set.ensures.set w.if-not-next_is_set.false) in
      omega (arith, one, w.count-is, c.each.invariant)
]

-- there are no more nulls than rows
pub overflow_add-count : goal.overflow_add-count
overflow_add-count g c =
    let none = no_more c.each.bits c.next_is_set.new.self c.args.results.now c.each.counter c.each-test.true (c.next_is_set.ensures.unset c.if-not-next_is_set.true) in
    let few = few_valid c.next_is_set.new.self (drop (c.each.counter + 1) c.args.results.now) in
    let less : c.each.count + 1 ≤ length c.args.results.now = omega (arith, none, few, length-drop (c.each.counter + 1) c.args.results.now, c.each.invariant, c.each-test.true) in
    grind (arith, common_steps, less)
