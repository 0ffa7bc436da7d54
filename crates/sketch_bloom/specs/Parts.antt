-- The parts of a filter, all of whose positions it has.
use Rattle.std.specs.Prelude.{◌≡◌, ℕ, true, List, [], ◌∷◌, ◌++◌}
use Rattle.std.specs.List.{Contains}
use Rattle.sketch_bloom.specs.History.{BloomHistory}
use Rattle.sketch_bloom.specs.History.BloomHistory.{New, Insert, Union, Intersection, Difference, Reset, Restored}
use Rattle.sketch_bloom.specs.Stands.{StandsFor}
use Rattle.sketch_bloom.specs.State.{FilterState, IsCompatible, contains_item}

-- the parts: the filter itself, the filter before each insertion, and the parts of both sides of each union. An intersection, a
-- difference or a reset may remove positions, so nothing before it is a part
abbrev pub parts_of : BloomHistory → List BloomHistory
parts_of (New num_words num_hashes seed) = New num_words num_hashes seed ∷ []
parts_of (Insert h bytes) = Insert h bytes ∷ parts_of h
parts_of (Union g h) = Union g h ∷ parts_of g ++ parts_of h
parts_of (Intersection g h) = Intersection g h ∷ []
parts_of (Difference g h) = Difference g h ∷ []
parts_of (Reset h) = Reset h ∷ []
parts_of (Restored h) = Restored h ∷ parts_of h

-- a filter contains what a compatible filter of any of its parts contains
abbrev pub PartsAreContained : Type 0
PartsAreContained = (s part : FilterState) (h g : BloomHistory) → StandsFor s h → StandsFor part g
    → Contains (parts_of h) g → IsCompatible s part
    → (bytes : List ℕ) → contains_item part bytes ≡ true → contains_item s bytes ≡ true
