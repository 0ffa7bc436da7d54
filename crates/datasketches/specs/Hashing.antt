-- The key of a session's sketches.
use Rattle.std.specs.Prelude.{◌≡◌, ℕ, List, IfSome}
use Rattle.counter_table.specs.declared.table_key.TableKey.{TableKey}
use Rattle.datasketches.specs.Names.{at_name}
use Rattle.datasketches.specs.State.{SessionState}
use Rattle.datasketches.specs.declared.sketch.Sketch.{Sketch}
use Rattle.datasketches.specs.declared.sketch.Sketch.TheVariants.{Frequent}

module _ {T : Type 0} where
  -- a sketch of frequent items hashes under this key. Sketches of other kinds have none
  abbrev pub IsUnder : TableKey → Sketch T → Type 0
  IsUnder key (Frequent s) = s.key ≡ key
  IsUnder key _ = Unit {0}

  -- each sketch of the session has the key of the session's tables
  abbrev pub HasOneKey : SessionState T → Type 0
  HasOneKey s = (name : List ℕ) → IfSome (at_name name s.sketches) (IsUnder s.keys.table)
