-- The next keys of a sequence, which are hashed before they are looked up.
use Rattle.std.specs.Prelude.{◌≡◌, ℕ, Bool, List, [], ◌∷◌}
use Rattle.counter_table.specs.TableHashes.{hash_of}
use Rattle.counter_table.specs.declared.table_key.TableKey.{TableKey}
use Rattle.sketch_frequencies.specs.declared.frequent_items_sketch.keyed_batches.KeysAhead.{KeysAhead}
use Rattle.sketch_frequencies.specs.declared.frequent_items_sketch.keyed_batches.KeysAhead.TheVariants.{End, One, Two}

-- which items each of them names
abbrev pub names_ahead : {X T : Type 0} → (X → T → Bool) → KeysAhead X → List (T → Bool)
names_ahead names End = []
names_ahead names (One key hash) = names key ∷ []
names_ahead names (Two first first_hash second second_hash) = names first ∷ names second ∷ []

-- each hash is that of its key, and no key is left behind fewer than two
abbrev pub AreHashed : {X T : Type 0} → (X → List ℕ) → TableKey → KeysAhead X → List (T → Bool) → Type 0
AreHashed bytes table End later = later ≡ []
AreHashed bytes table (One key hash) later = (hash ≡ hash_of table (bytes key)) × (later ≡ [])
AreHashed bytes table (Two first first_hash second second_hash) later = (first_hash ≡ hash_of table (bytes first)) × (second_hash ≡ hash_of table (bytes second))
