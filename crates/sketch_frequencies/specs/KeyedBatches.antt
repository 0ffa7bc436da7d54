-- Many updates in one call, each of the item that a key names. A key is the test whether it names an item.
use Rattle.std.specs.Prelude.{◌≡◌, ℕ, Bool, false, List, [], ◌∷◌, ◌++◌, IsTrue, Result, MatchResult}
use Rattle.std.specs.List.{AllZip}
use Rattle.sketch_base.specs.Errors.{ErrorValue, invalid_argument, no_memory}
use Rattle.sketch_base.specs.declared.fault.Fault.TheVariants.{WeightOverflow}
use Rattle.counter_table.specs.Tables.{is_tracked_by_key}
use Rattle.sketch_frequencies.specs.Batches.{UpdatesAll}
use Rattle.sketch_frequencies.specs.State.{FrequentState, Overflows, TotalHasRoom}
use Rattle.sketch_frequencies.specs.WeightedBatches.{UpdatesWeighed}

module _ {T : Type 0} where
  -- each key names the item at its index
  abbrev pub AreNamed : List (T → Bool) → List T → Type 0
  AreNamed = AllZip (λ key item. IsTrue (key item))

  -- each key names the item at its index, which has the key's weight
  abbrev pub AreNamedWithWeights : List ((T → Bool) × ℕ) → List (T × ℕ) → Type 0
  AreNamedWithWeights = AllZip (λ key item. IsTrue (key.0 item.0) × (item.1 ≡ key.1))

module _ {T : Type 0} (eq : T → T → Bool) where
  -- the items of the keys were added, in order: some items are named, and whichever are named were added
  pub record UpdatesKeys (old : FrequentState T) (keys : List (T → Bool)) (new : FrequentState T) : Type 0 where
    pub some : (items : List T) × AreNamed keys items
    pub updates : (items : List T) → AreNamed keys items → UpdatesAll eq old items new

  -- new is old after the items of the keys before one were added, and the update by that one fails with e
  pub record StopsAtKey (old : FrequentState T) (keys : List (T → Bool)) (e : ErrorValue) (new : FrequentState T) : Type 0 where
    pub before : List (T → Bool)
    pub refused : T → Bool
    pub behind : List (T → Bool)
    pub parts : keys ≡ before ++ refused ∷ behind
    pub added : UpdatesKeys old before new
    pub overflow : Overflows new 1 → e ≡ invalid_argument WeightOverflow
    pub memory : TotalHasRoom new 1 → (e ≡ no_memory) × (is_tracked_by_key refused new.counters ≡ false)

  -- the update by the last of these keys failed, and the items of all before it were added
  abbrev pub StopsAtLastKey : FrequentState T → List (T → Bool) → ErrorValue → FrequentState T → Type 0
  StopsAtLastKey old keys e new = (stop : StopsAtKey old keys e new) × (stop.behind ≡ [])

  -- the items of all keys that an iterator gave were added, or the update by the last one failed
  abbrev pub UpdatesSeen : FrequentState T → List (T → Bool) → Result (Unit {0}) ErrorValue → FrequentState T → Type 0
  UpdatesSeen old keys result new = MatchResult result (λ _. UpdatesKeys old keys new) (λ e. StopsAtLastKey old keys e new)

  -- the weight of each pair was added at the item that its key names, in order
  pub record UpdatesWeighedKeys (old : FrequentState T) (pairs : List ((T → Bool) × ℕ)) (new : FrequentState T) : Type 0 where
    pub some : (items : List (T × ℕ)) × AreNamedWithWeights pairs items
    pub updates : (items : List (T × ℕ)) → AreNamedWithWeights pairs items → UpdatesWeighed eq old items new

  -- new is old after the weights before one were added, and the item of that one's key is not tracked
  pub record StopsAtWeighedKey (old : FrequentState T) (pairs : List ((T → Bool) × ℕ)) (new : FrequentState T) : Type 0 where
    pub before : List ((T → Bool) × ℕ)
    pub refused : (T → Bool) × ℕ
    pub behind : List ((T → Bool) × ℕ)
    pub parts : pairs ≡ before ++ refused ∷ behind
    pub added : UpdatesWeighedKeys old before new
    pub untracked : is_tracked_by_key refused.0 new.counters ≡ false
