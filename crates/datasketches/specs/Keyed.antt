-- Additions of an item by a key.
use Rattle.std.specs.Prelude.{◌≡◌, ℕ, ◌<◌, ◌⊎◌, Bool, false, List, Result, Err, ⊤, MatchOption, IsTrue}
use Rattle.counter_table.specs.Tables.{is_tracked_by_key}
use Rattle.sketch_base.specs.Errors.{no_memory}
use Rattle.sketch_frequencies.specs.State.{TotalHasRoom}
use Rattle.datasketches.specs.Actions.Action.{Alter}
use Rattle.datasketches.specs.Actions.Change.{Add}
use Rattle.datasketches.specs.Changing.{Changes}
use Rattle.datasketches.specs.ItemTypes.{ItemType}
use Rattle.datasketches.specs.Names.{at_name}
use Rattle.datasketches.specs.Performed.{Performed}
use Rattle.datasketches.specs.Replies.{done_or}
use Rattle.datasketches.specs.State.{SessionState, IsUnchanged}
use Rattle.datasketches.specs.declared.reply.Refusal.{Refusal}
use Rattle.datasketches.specs.declared.reply.Refusal.TheVariants.{Call}
use Rattle.datasketches.specs.declared.sketch.Sketch.{Sketch}
use Rattle.datasketches.specs.declared.sketch.Sketch.TheVariants.{Frequent}

module _ {T : Type 0} where
  -- the sketch is of frequent items, and tracks no item that the key names. Its total has room for the weight
  abbrev pub NeedsItem : (T → Bool) → ℕ → Sketch T → Type 0
  NeedsItem names weight (Frequent s) = (is_tracked_by_key names s.counters ≡ false) × TotalHasRoom s weight
  NeedsItem names weight _ = ⊥

  -- the error is `NoMemory`, of an addition that needs an item of its own. A weight of 0 needs none
  pub record RunsOut (names : T → Bool) (weight : ℕ) (old : Sketch T) (result : Result ⊤ Refusal) : Type 0 where
    pub error : result ≡ Err (Call no_memory)
    pub some : 0 < weight
    pub needs : NeedsItem names weight old

module _ {T : Type 0} (eq : T → T → Bool) (input : T → List (List ℕ)) where
  -- an item that the key names was added, or rejected, as it is by itself; or there was no memory for it
  abbrev pub AddsNamed : (T → Bool) → ℕ → Sketch T → Result ⊤ Refusal → Sketch T → Type 0
  AddsNamed names weight old result new =
      ((item : T) × IsTrue (names item) × Changes eq input (Add item weight) old (done_or result) new)
      ⊎ RunsOut names weight old result

module _ {T C : Type 0} (items : ItemType T C) where
  -- the same in a session, on the sketch of this name
  abbrev pub PerformedByKey : List ℕ → (T → Bool) → ℕ → SessionState T → Result ⊤ Refusal → SessionState T → Type 0
  PerformedByKey name names weight old result new =
      ((item : T) × IsTrue (names item)
      × Performed items (Alter name (Add item weight)) old (done_or result) new)
      ⊎ (IsUnchanged old new × MatchOption (at_name name old.sketches) ⊥ (λ sketch. RunsOut names weight sketch result))
