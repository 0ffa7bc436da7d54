use Rattle.std.proofs.Common.{◌≡◌, length}
use Rattle.sketch_base.specs.Validity.{valid}
use Rattle.any_sketch.proofs.rows_with_bits.RowsWithBitsKeys.next_key.Given as goal

-- the keys that were left out are not valid
abbrev pub invariant-each : goal.invariant-each
invariant-each g l = valid l.self.validity (g.K.Keys.names l.self.items) ≡ valid l.fn.self.validity (g.K.Keys.names l.fn.self.items)

abbrev pub decreases-each : goal.decreases-each
decreases-each g l = length (g.K.Keys.names l.self.items)
