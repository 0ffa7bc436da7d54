-- Comparisons of two sketches, from a test that decides whether they are equal.
use Rattle.std.proofs.Common.{◌≡◌, Bool, true, false, refl, Ok}
use Rattle.std.specs.Bool.{Decides}
use Rattle.std.proofs.lemmas.Bool.{false≢true}
use Rattle.any_sketch.specs.Joins.{TellsWhetherSame}

pub by_test : {S : Type 0} (a b : S) (t : Bool) → Decides t (a ≡ b) → TellsWhetherSame a b (Ok t)
by_test a b true decides = record { same = λ e. refl; different = λ not. absurd (not (decides.0 refl)) }
by_test a b false decides = record { same = λ e. absurd (false≢true (decides.1 e)); different = λ not. refl }
