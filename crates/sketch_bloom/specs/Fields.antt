-- The invariants of the fields of bits, of a filter and of a view of an image.
use Rattle.std.specs.Prelude.{◌≡◌, ℕ, ◌*◌, ◌≤◌, ◌⊎◌, List, length}
use Rattle.std.specs.FinSet as set
use Rattle.sketch_bloom.specs.BitSet.{set_of}
use Rattle.sketch_bloom.specs.State.{FilterState, IsFilterState}

-- the state that words, a number of hashes and a seed show
abbrev pub state_of : List ℕ → ℕ → ℕ → FilterState
state_of words num_hashes seed =
    record { num_words = length words; num_hashes = num_hashes; seed = seed; set = set_of words }

-- the words, the capacity and the number of hashes are consistent
pub record AreBits (words : List ℕ) (capacity num_hashes : ℕ) : Type 0 where
  pub some_words : 1 ≤ length words
  pub few_words : length words ≤ 2147483647
  pub capacity_is : capacity ≡ 64 * length words
  pub some_hashes : 1 ≤ num_hashes
  pub few_hashes : num_hashes ≤ 32767

-- the bits and the count of set bits are consistent
pub record IsFilter (bits : FilterState) (bits_used : ℕ) : Type 0 where
  pub state : IsFilterState bits
  pub bits_used_is : bits_used ≡ set.len bits.set

-- the state that bits show in a view of a filter with this number of words
abbrev pub view_of : FilterState → ℕ → FilterState
view_of bits num_words = record bits { num_words = num_words }

-- the bits have this number of words, or are all 0
pub record IsView (bits : FilterState) (num_words : ℕ) : Type 0 where
  pub state : IsFilterState (view_of bits num_words)
  pub bits_state : IsFilterState bits
  pub same : (bits.num_words ≡ num_words) ⊎ (bits.set ≡ set.empty)
