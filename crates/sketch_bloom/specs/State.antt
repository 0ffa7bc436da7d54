-- The state of a filter, as callers see it: its shape, its seed and a set of positions.
use Rattle.std.specs.Prelude.{◌≡◌, ℕ, ◌*◌, ◌<◌, ◌≤◌, ◌==◌, Bool, true, ◌&&◌, List, [], ◌∷◌, fold, refl}
use Rattle.std.specs.Coded.{Coded, code_by, coded×, coded_ℕ}
use Rattle.std.specs.FinSet as set
use Rattle.sketch_bloom.specs.BitSet.{Numbers, same_set}
use Rattle.sketch_bloom.specs.Positions.{positions_of}

-- the number of words and of hashes, the seed, and the set of positions
pub record FilterState : Type 0 where
  pub num_words : ℕ
  pub num_hashes : ℕ
  pub seed : ℕ
  pub set : Numbers

-- the state as the tuple of its fields
abbrev pub state_code : Coded FilterState
state_code =
    code_by (ℕ × (ℕ × (ℕ × Numbers))) (coded× coded_ℕ (coded× coded_ℕ (coded× coded_ℕ (set.code coded_ℕ))))
    (λ s. (s.num_words, (s.num_hashes, (s.seed, s.set))))
    (λ p. record { num_words = p.0; num_hashes = p.1.0; seed = p.1.1.0; set = p.1.1.1 }) (λ _. refl)

-- the number of positions: 64 for each word
abbrev pub capacity_of : FilterState → ℕ
capacity_of s = 64 * s.num_words

-- what holds of every filter
pub record IsFilterState (s : FilterState) : Type 0 where
  pub some_words : 1 ≤ s.num_words
  pub few_words : s.num_words ≤ 2147483647
  pub some_hashes : 1 ≤ s.num_hashes
  pub few_hashes : s.num_hashes ≤ 32767
  -- each position of the set is below the capacity
  pub within : (p : ℕ) → set.contains s.set p ≡ true → p < capacity_of s

-- a filter of a shape and a seed with an empty set
abbrev pub empty_state : ℕ → ℕ → ℕ → FilterState
empty_state num_words num_hashes seed =
    record { num_words = num_words; num_hashes = num_hashes; seed = seed; set = set.empty }

-- the positions in a filter of the item that feeds these bytes
abbrev pub item_positions : FilterState → List ℕ → Numbers
item_positions s bytes = positions_of (capacity_of s) s.num_hashes s.seed bytes

-- whether all positions of the item are in the set
abbrev pub contains_item : FilterState → List ℕ → Bool
contains_item s bytes = set.is_subset (item_positions s bytes) s.set

-- two filters have one shape and one seed
pub record IsCompatible (a b : FilterState) : Type 0 where
  pub num_words : a.num_words ≡ b.num_words
  pub num_hashes : a.num_hashes ≡ b.num_hashes
  pub seed : a.seed ≡ b.seed

-- two filters have one shape, one seed and one set, as a test
abbrev pub same_filter : FilterState → FilterState → Bool
same_filter a b =
    (a.num_words == b.num_words) && ((a.num_hashes == b.num_hashes) && ((a.seed == b.seed) && same_set a.set b.set))

-- a filter with an item inserted
abbrev pub inserted : FilterState → List ℕ → FilterState
inserted s bytes = record s { set = set.union s.set (item_positions s bytes) }

-- a filter with items inserted, one after another
abbrev pub all_inserted : FilterState → List (List ℕ) → FilterState
all_inserted s items = fold inserted s items

-- for each item, in turn, whether the filter contains it before it is inserted
abbrev pub answers_in_turn : FilterState → List (List ℕ) → List Bool
answers_in_turn s [] = []
answers_in_turn s (bytes ∷ rest) = contains_item s bytes ∷ answers_in_turn (inserted s bytes) rest

-- a filter with an empty set
abbrev pub cleared : FilterState → FilterState
cleared s = record s { set = set.empty }

-- a filter with the union of both sets
abbrev pub united : FilterState → FilterState → FilterState
united a b = record a { set = set.union a.set b.set }

-- a filter with the sets of others united into its own, one after another
abbrev pub all_united : FilterState → List FilterState → FilterState
all_united s others = fold united s others

-- a filter with the intersection of both sets
abbrev pub intersected : FilterState → FilterState → FilterState
intersected a b = record a { set = set.intersection a.set b.set }

-- a filter with the set of another subtracted
abbrev pub subtracted : FilterState → FilterState → FilterState
subtracted a b = record a { set = set.difference a.set b.set }
