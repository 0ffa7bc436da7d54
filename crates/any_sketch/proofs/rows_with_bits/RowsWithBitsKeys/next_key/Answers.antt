use Rattle.std.proofs.Common.{sym, ap, ◌∙◌}
use Rattle.sketch_base.specs.Validity.{valid}
use Rattle.sketch_base.proofs.ValidBits.{left_out}
use Rattle.any_sketch.proofs.rows_with_bits.RowsWithBitsKeys.next_key.Goals as goal

-- the key that is left out is not valid
pub each-preserved : goal.each-preserved
each-preserved g c = sym (left_out c.each.self.validity c.next_is_set.new.self (c.next_is_set.ensures.unset c.if-next_is_set.false) _ _) ∙ (ap (valid c.each.self.validity) (sym c.in_ok-key.ensures) ∙ c.each.invariant)
