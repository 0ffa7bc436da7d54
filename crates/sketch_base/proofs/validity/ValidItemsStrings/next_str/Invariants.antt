use Rattle.std.proofs.Common.{◌≡◌, length}
use Rattle.sketch_base.specs.Validity.{valid}
use Rattle.sketch_base.proofs.validity.ValidItemsStrings.next_str.Given as goal

-- the items that were left out are not valid
abbrev pub invariant-each : goal.invariant-each
invariant-each g l = valid l.self.validity (g.S.Strings.strings l.self.items) ≡ valid l.fn.self.validity (g.S.Strings.strings l.fn.self.items)

abbrev pub decreases-each : goal.decreases-each
decreases-each g l = length (g.S.Strings.strings l.self.items)
