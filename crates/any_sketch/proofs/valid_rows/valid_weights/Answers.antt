use Rattle.std.proofs.Common.{◌++◌, List, sym, ap, ◌∙◌}
use Rattle.any_sketch.proofs.Spreading.{kept_more, no_row, waits_at}
use Rattle.any_sketch.proofs.valid_rows.valid_weights.Goals.{then-next_is_set+in-Ok, else-next_is_set}
use Rattle.any_sketch.proofs.valid_rows.valid_weights.Goals as goal

-- the weight was kept, or its row is null
pub each-preserved : goal.each-preserved
each-preserved g c = elim c.if-next_is_set.branch [
  | then-next_is_set+in-Ok w ↦
      let first = waits_at c.args.weights.now c.each.i w.index-weights-i.result c.each-test.true w.index-weights-i.is in
      rw (w.kept-is, w.in-Ok.ensures.items) (kept_more c.each.bits c.next_is_set.new.self c.each.kept.items c.args.weights.now c.each.i w.index-weights-i.result (c.next_is_set.ensures.set w.if-next_is_set.true) first ∙ c.each.invariant)
  | else-next_is_set w ↦ rw w.kept-is (ap (λ (rest : List _). c.each.kept.items ++ rest) (sym (no_row c.each.bits c.next_is_set.new.self c.args.weights.now c.each.i c.each-test.true (c.next_is_set.ensures.unset w.if-next_is_set.false))) ∙ c.each.invariant)
]
