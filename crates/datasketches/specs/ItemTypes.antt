-- The type of a session's items.
use Rattle.std.specs.Prelude.{ℕ, Bool, List}
use Rattle.sketch_frequencies.specs.Items.{Codec}

-- what a session knows of its items of the type `T`, whose contents are of the type `C`
pub record ItemType (T C : Type 0) : Type 0 where
  -- the bytes of a slot for an item in a table of counters
  pub slot : ℕ
  pub eq : T → T → Bool
  -- what an item feeds to a hasher
  pub input : T → List (List ℕ)
  -- how items are written to images and read from them, by their contents
  pub codec : Codec C
  pub content : T → C
