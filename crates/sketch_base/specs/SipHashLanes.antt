-- The states of two hashes by SipHash, side by side.
use Rattle.std.specs.Prelude.{ℕ, List, [], ◌∷◌}
use Rattle.sketch_base.specs.SipHash.{State}

-- each word of the first state with that of the second
abbrev pub lanes_of : State → State → List ℕ × List ℕ × List ℕ × List ℕ
lanes_of a b = (a.0 ∷ b.0 ∷ [], a.1 ∷ b.1 ∷ [], a.2 ∷ b.2 ∷ [], a.3 ∷ b.3 ∷ [])
