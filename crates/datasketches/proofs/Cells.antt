-- The least of some cells.
use Rattle.std.proofs.Common.{◌≡◌, ℕ, List, ℤ, refl, arith}
use Rattle.std.proofs.lemmas.Int.{ints}
use Rattle.sketch_countmin.specs.State.{CountState, IsMinCell, upper_bound_of}
use Rattle.datasketches.specs.declared.reply.Reply.TheVariants.{Bounds}
use Rattle.datasketches.specs.Answering.{TellsCount}

-- there is one least cell
one_least : (s : CountState) (bytes : List ℕ) (y z : ℤ) → IsMinCell s bytes y → IsMinCell s bytes z → y ≡ z
one_least s bytes y z a b =
    let r = a.reached in let q = b.reached in
    let low = a.below q.0 q.1 in let high = b.below r.0 r.1 in
    omega (arith, ints, low, high, r.2, q.2)

-- the estimate and the lower bound are that one
pub tells : {T : Type 0} (greatest : ℕ) (bytes : List ℕ) (s : CountState) (estimate lower upper : ℤ) → IsMinCell s bytes estimate → IsMinCell s bytes lower → upper ≡ upper_bound_of greatest s estimate → TellsCount {T = T} greatest bytes s (Bounds estimate lower upper)
tells greatest bytes s estimate lower upper a b e = (estimate, a, rw (one_least s bytes lower estimate b a, e) refl)
