-- A list of blocked items, from which batches can be removed. An item is the bytes that its `Hash` feeds.
use Rattle.std.specs.Prelude.{◌≡◌, ◌↔◌, IsTrue, ℕ, Bool, true, false, List, ◌∷◌, ◌++◌, fold}
use Rattle.std.specs.List.{list_any}
use Rattle.std.specs.FinSet as set
use Rattle.sketch_bloom.specs.History.{BloomHistory, words_of, hashes_of, seed_of, all_inserted_after, denoted_set}
use Rattle.sketch_bloom.specs.History.BloomHistory.{New, Insert, Difference}
use Rattle.sketch_bloom.specs.Stands.{StandsFor}
use Rattle.sketch_bloom.specs.State.{FilterState, all_inserted, cleared, item_positions, subtracted}

-- an item is blocked from now on, or a batch of items is removed
pub data Entry : Type 0 where
  Refused : (item : List ℕ) → Entry
  TakenBack : (items : List (List ℕ)) → Entry

-- the history after one more entry. A batch is removed by the difference with a new filter of its items
abbrev pub after_entry : BloomHistory → Entry → BloomHistory
after_entry h (Refused item) = Insert h item
after_entry h (TakenBack items) =
    Difference h (all_inserted_after (New (words_of h) (hashes_of h) (seed_of h)) items)

-- the history of all entries, the first one first
abbrev pub history_of : FilterState → List Entry → BloomHistory
history_of s entries = fold after_entry (New s.num_words s.num_hashes s.seed) entries

-- the filter is that of these entries
pub record Follows (s : FilterState) (entries : List Entry) : Type 0 where
  pub stands : StandsFor s (history_of s entries)

-- whether the entry removes a position: one of an item of its batch
abbrev pub takes_back : FilterState → ℕ → Entry → Bool
takes_back s p (Refused item) = false
takes_back s p (TakenBack items) = list_any (λ item. set.contains (item_positions s item) p) items

-- no position of the item is removed by any of the entries
abbrev pub IsSpared : FilterState → List ℕ → List Entry → Type 0
IsSpared s item entries =
    (p : ℕ) → set.contains (item_positions s item) p ≡ true → list_any (takes_back s p) entries ≡ false

-- an item is blocked exactly if the set that the history denotes has all its positions
abbrev pub SaysWhatFollows : FilterState → List ℕ → Bool → Type 0
SaysWhatFollows s item answer =
    (entries : List Entry) → Follows s entries →
    IsTrue answer ↔ IsTrue (set.is_subset (item_positions s item) (denoted_set (history_of s entries)))

-- an item that was blocked is still blocked if none of its positions was removed since
abbrev pub RefusesStill : FilterState → List ℕ → Bool → Type 0
RefusesStill s item answer =
    (before since : List Entry) → Follows s (before ++ Refused item ∷ since) → IsSpared s item since → IsTrue answer

-- the filter after a batch was removed
abbrev pub without : FilterState → List (List ℕ) → FilterState
without s items = subtracted s (all_inserted (cleared s) items)
