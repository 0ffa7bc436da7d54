-- Clones of pairs. No clause cites this module: laws of impls use it.
use Rattle.std.proofs.Common.{Bool, true, false}
use Rattle.std.specs.Prelude.{IsTrue, ◌&&◌}
use Rattle.std.proofs.lemmas.Bool.{false≢true}

-- two true tests
pub both : (a b : Bool) → IsTrue a → IsTrue b → IsTrue (a && b)
both true b first second = second
both false b first second = absurd (false≢true first)
