-- Values under names.
use Rattle.std.specs.Prelude.{◌≡◌, ◌<◌, ℕ, List, [], ◌∷◌, Option, Some, None, IfSome, Result, Ok, Err, ⊤, bytes_eq, if◌then◌else◌}
use Rattle.std.specs.Global.{Global}
use Rattle.std.specs.List.{slice_get}
use Rattle.std.specs.Map.{lookup}
use Rattle.std.specs.String.{string_bytes}
use Rattle.std.specs.declared.string.String.{String}
use Rattle.sketch_base.specs.Errors.{ErrorValue, no_memory}
use Rattle.sketch_base.specs.declared.map_state.MapState.{MapState}
use Rattle.datasketches.specs.declared.reply.Refusal.{Refusal}
use Rattle.datasketches.specs.declared.reply.Refusal.TheVariants.{Call}

-- a name, as a session keeps it
abbrev pub Name : Type 0
Name = String Global

-- the index of the name, if any
abbrev pub index_of : List ℕ → List (Name × ℕ) → Option ℕ
index_of name entries = lookup (λ key. bytes_eq name (string_bytes key)) entries

-- each index is below `count` and has at most one name
pub record AreIndices (entries : List (Name × ℕ)) (count : ℕ) : Type 0 where
  pub below : (name : List ℕ) → IfSome (index_of name entries) (λ index. index < count)
  pub apart : (name other : List ℕ) (index : ℕ)
      → index_of name entries ≡ Some index → index_of other entries ≡ Some index → name ≡ other

-- values with their names in some order, and the hash builder of the names
pub record Named (V : Type 0) : Type 0 where
  pub entries : List (List ℕ × V)
  pub hasher : MapState

module _ {V : Type 0} where
  -- the value of the name, if any, among values with their names in some order
  abbrev pub at_name : List ℕ → List (List ℕ × V) → Option V
  at_name name values = lookup (bytes_eq name) values

  -- the name now has this value, and the other names keep theirs
  abbrev pub Puts : List ℕ → V → List (List ℕ × V) → List (List ℕ × V) → Type 0
  Puts name value old new =
      (other : List ℕ) → at_name other new ≡ (if bytes_eq name other then Some value else at_name other old)

  -- each name keeps its value
  abbrev pub AreSame : List (List ℕ × V) → List (List ℕ × V) → Type 0
  AreSame old new = (name : List ℕ) → at_name name new ≡ at_name name old

  -- a value that was made was put under the name. Or each name keeps its value, and the error is that of making it, or `NoMemory`
  abbrev pub Keeps :
      List ℕ → Result V ErrorValue → List (List ℕ × V) → Result ⊤ Refusal → List (List ℕ × V) → Type 0
  Keeps name (Ok value) old (Ok _) new = Puts name value old new
  Keeps name (Ok value) old (Err why) new = (why ≡ Call no_memory) × AreSame old new
  Keeps name (Err error) old (Ok _) new = ⊥
  Keeps name (Err error) old (Err why) new = (why ≡ Call error) × AreSame old new

  -- the value at the index, if any
  abbrev pub at_index : Option ℕ → List V → Option V
  at_index None values = None
  at_index (Some index) values = slice_get values index

  -- the values with this one before them under its name, if there is one
  abbrev pub with_first : List ℕ → Option V → List (List ℕ × V) → List (List ℕ × V)
  with_first name None rest = rest
  with_first name (Some value) rest = (name, value) ∷ rest

  -- the values with their names, for each name whose index has a value
  abbrev pub listed : List (Name × ℕ) → List V → List (List ℕ × V)
  listed [] values = []
  listed (entry ∷ entries) values =
      with_first (string_bytes entry.0) (slice_get values entry.1) (listed entries values)
