-- Items of the types that sketches of any kind take.
use Rattle.std.specs.Hash as hashed
use Rattle.std.specs.Prelude.{ℕ, ℤ, List}
use Rattle.sketch_base.specs.Hashes.{fed_bytes}
use Rattle.any_sketch.specs.declared.item.Item.{Item}
use Rattle.any_sketch.specs.declared.item.Item.TheVariants.{U64, I64, Text, Fed}

-- an item: a number without or with a sign, the bytes of a string, or the bytes that its hash feeds
pub data ItemValue : Type 0 where
  unsigned : ℕ → ItemValue
  signed : ℤ → ItemValue
  string : List ℕ → ItemValue
  fed_as_given : List ℕ → ItemValue

-- the value of an item
abbrev pub value_of : Item → ItemValue
value_of (U64 n) = unsigned n
value_of (I64 n) = signed n
value_of (Text text) = string text.now
value_of (Fed bytes) = fed_as_given bytes.now

-- the bytes that the hash of an item feeds
abbrev pub fed_by : ItemValue → List ℕ
fed_by (unsigned n) = fed_bytes hashed.u64 n
fed_by (signed n) = fed_bytes hashed.i64 n
fed_by (string bytes) = fed_bytes hashed.str bytes
fed_by (fed_as_given bytes) = bytes
