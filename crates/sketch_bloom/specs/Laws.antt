-- The laws of set algebra, of equality and of images, over the states of filters.
use Rattle.std.specs.Prelude.{◌≡◌, ◌↔◌, IsTrue, ℕ, true, false, List, ◌++◌, length, None}
use Rattle.std.specs.FinSet as set
use Rattle.sketch_bloom.specs.Image.{IsImage, IsSpelled, first_fault, prefix_bytes}
use Rattle.sketch_bloom.specs.State.{FilterState, IsFilterState, IsCompatible, item_positions, contains_item, same_filter, inserted, united, subtracted}

-- the union of compatible filters does not depend on their order
abbrev pub UnionCommutes : Type 0
UnionCommutes = (a b : FilterState) → IsCompatible a b → united a b ≡ united b a

-- the union of three filters does not depend on which two are united first
abbrev pub UnionAssociates : Type 0
UnionAssociates = (a b c : FilterState) → united (united a b) c ≡ united a (united b c)

-- the union of a filter with itself is the filter
abbrev pub UnionIsIdempotent : Type 0
UnionIsIdempotent = (a : FilterState) → united a a ≡ a

-- an item that a filter contains is contained in its union with another
abbrev pub UnionKeeps : Type 0
UnionKeeps = (a b : FilterState) (bytes : List ℕ) → contains_item a bytes ≡ true → contains_item (united a b) bytes ≡ true

-- an item that the other, compatible filter contains is contained in the union
abbrev pub UnionBrings : Type 0
UnionBrings = (a b : FilterState) (bytes : List ℕ) → IsCompatible a b → contains_item b bytes ≡ true
    → contains_item (united a b) bytes ≡ true

-- a filter with an empty set contains no item
abbrev pub EmptyContainsNothing : Type 0
EmptyContainsNothing = (a : FilterState) (bytes : List ℕ) → IsFilterState a → a.set ≡ set.empty
    → contains_item a bytes ≡ false

-- an item is contained after it was inserted
abbrev pub InsertedIsContained : Type 0
InsertedIsContained = (a : FilterState) (bytes : List ℕ) → contains_item (inserted a bytes) bytes ≡ true

-- after a difference no item of the other, compatible filter is contained
abbrev pub DifferenceTakesAway : Type 0
DifferenceTakesAway = (a b : FilterState) (bytes : List ℕ) → IsFilterState b → IsCompatible a b
    → contains_item b bytes ≡ true → contains_item (subtracted a b) bytes ≡ false

-- an item that is contained after a difference was contained before
abbrev pub DifferenceAddsNothing : Type 0
DifferenceAddsNothing = (a b : FilterState) (bytes : List ℕ) → contains_item (subtracted a b) bytes ≡ true
    → contains_item a bytes ≡ true

-- an item stays contained after a difference if none of its positions is in the other set
abbrev pub DifferenceLeaves : Type 0
DifferenceLeaves = (a b : FilterState) (bytes : List ℕ) → contains_item a bytes ≡ true
    → ((p : ℕ) → set.contains (item_positions a bytes) p ≡ true → set.contains b.set p ≡ false)
    → contains_item (subtracted a b) bytes ≡ true

-- `==` returns whether shape, seed and set are equal
abbrev pub EqualByParts : Type 0
EqualByParts = (a b : FilterState) → IsTrue (same_filter a b) ↔ (a ≡ b)

-- a filter equals itself
abbrev pub EqualityIsReflexive : Type 0
EqualityIsReflexive = (a : FilterState) → same_filter a a ≡ true

-- equality does not depend on the order of the filters
abbrev pub EqualityIsSymmetric : Type 0
EqualityIsSymmetric = (a b : FilterState) → same_filter a b ≡ same_filter b a

-- filters that are equal to one filter are equal to each other
abbrev pub EqualityIsTransitive : Type 0
EqualityIsTransitive = (a b c : FilterState) → same_filter a b ≡ true → same_filter b c ≡ true
    → same_filter a c ≡ true

-- the image that is written for a filter is an image of it
abbrev pub SpelledIsImage : Type 0
SpelledIsImage = (image : List ℕ) (a : FilterState) → IsSpelled image a → IsImage image a

-- so it is if any bytes follow, and as many are read
abbrev pub SpelledIsFront : Type 0
SpelledIsFront = (image rest : List ℕ) (a : FilterState) → IsSpelled image a
    → IsImage (image ++ rest) a × (prefix_bytes (image ++ rest) ≡ length image)

-- no bytes are an image of two filters
abbrev pub ImageIsOfOne : Type 0
ImageIsOfOne = (image : List ℕ) (a b : FilterState) → IsImage image a → IsImage image b → a ≡ b

-- bytes are an image of a filter exactly if no check fails
abbrev pub ImageIsOfSome : Type 0
ImageIsOfSome = (image : List ℕ) → ((a : FilterState) × IsImage image a) ↔ (first_fault image ≡ None)
