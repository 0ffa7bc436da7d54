-- The history of a filter, and the set that it denotes.
use Rattle.std.specs.Prelude.{ℕ, ◌*◌, List, fold}
use Rattle.std.specs.FinSet as set
use Rattle.sketch_bloom.specs.BitSet.{Numbers}
use Rattle.sketch_bloom.specs.Positions.{positions_of}

-- a new filter of a shape and a seed; an item inserted, given by the bytes that its Hash feeds; two filters of one
-- shape and one seed combined; all positions removed; or the filter written to an image and read back
pub data BloomHistory : Type 0 where
  New : (num_words num_hashes seed : ℕ) → BloomHistory
  Insert : BloomHistory → (bytes : List ℕ) → BloomHistory
  Union : BloomHistory → BloomHistory → BloomHistory
  Intersection : BloomHistory → BloomHistory → BloomHistory
  Difference : BloomHistory → BloomHistory → BloomHistory
  Reset : BloomHistory → BloomHistory
  Restored : BloomHistory → BloomHistory

-- the items inserted one after another
abbrev pub all_inserted_after : BloomHistory → List (List ℕ) → BloomHistory
all_inserted_after h items = fold Insert h items

-- the unions with others, one after another
abbrev pub all_united_after : BloomHistory → List BloomHistory → BloomHistory
all_united_after h others = fold Union h others

-- a function of the shape and the seed of the first filter; a combination has those of the filter that it changes
abbrev pub of_first : (ℕ → ℕ → ℕ → ℕ) → BloomHistory → ℕ
of_first f (New num_words num_hashes seed) = f num_words num_hashes seed
of_first f (Insert h bytes) = of_first f h
of_first f (Union g h) = of_first f g
of_first f (Intersection g h) = of_first f g
of_first f (Difference g h) = of_first f g
of_first f (Reset h) = of_first f h
of_first f (Restored h) = of_first f h

-- the number of words, the number of hashes, and the seed
abbrev pub words_of : BloomHistory → ℕ
words_of h = of_first (λ num_words num_hashes seed. num_words) h

abbrev pub hashes_of : BloomHistory → ℕ
hashes_of h = of_first (λ num_words num_hashes seed. num_hashes) h

abbrev pub seed_of : BloomHistory → ℕ
seed_of h = of_first (λ num_words num_hashes seed. seed) h

-- the set of positions that the history denotes
abbrev pub denoted_set : BloomHistory → Numbers
denoted_set (New num_words num_hashes seed) = set.empty
denoted_set (Insert h bytes) =
    set.union (denoted_set h) (positions_of (64 * words_of h) (hashes_of h) (seed_of h) bytes)
denoted_set (Union g h) = set.union (denoted_set g) (denoted_set h)
denoted_set (Intersection g h) = set.intersection (denoted_set g) (denoted_set h)
denoted_set (Difference g h) = set.difference (denoted_set g) (denoted_set h)
denoted_set (Reset h) = set.empty
denoted_set (Restored h) = denoted_set h
