use Rattle.std.proofs.Common.{◌≡◌, length}
use Rattle.sketch_base.specs.Validity.{valid}
use Rattle.any_sketch.proofs.rows_with_bits.RowsWithBitsItems.next.Given as goal

-- the items that were left out are not valid
abbrev pub invariant-each : goal.invariant-each
invariant-each g l = valid l.self.validity (g.I.Items.list l.self.items) ≡ valid l.fn.self.validity (g.I.Items.list l.fn.self.items)

abbrev pub decreases-each : goal.decreases-each
decreases-each g l = length (g.I.Items.list l.self.items)
