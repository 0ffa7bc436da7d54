-- The values of the environment variable that fixes the key of tables, and the keys that a run has.
use Rattle.std.specs.Prelude.{◌≡◌, ℕ, List, ◌++◌, Option, Some, None, Result, Err, IfOk, if◌then◌else◌, codes, option_map}
use Rattle.std.specs.Int.{w64, to_le_bytes}
use Rattle.std.specs.Result.{result_ok}
use Rattle.std.specs.Str.{bytes_eq}
use Rattle.datasketches.specs.State.{SessionKeys}
use Rattle.datasketches.specs.TableKey.{TableKey}
use Rattle.datasketches.specs.TableKey.TheVariants as table
use Rattle.sketch_base.specs.declared.map_state.MapState.{MapState}
use Rattle.sketch_base.specs.declared.map_state.MapState.TheVariants.{Random}
use Rattle.hex.specs.Hex.{decode_sized}
use Rattle.sketch_base.specs.MachineWords.{word_at}
use Rattle.sketch_base.specs.SipHash.{sip_hash_1_3}
use Rattle.datasketches_cli.specs.declared.keys.Choice.{Choice}
use Rattle.datasketches_cli.specs.declared.keys.Choice.TheVariants.{Plain, Bytes}
use Rattle.datasketches_cli.specs.declared.keys.KeyFault.{KeyFault}
use Rattle.datasketches_cli.specs.declared.keys.KeyFault.TheVariants.{BadValue}
use Rattle.datasketches_cli.specs.declared.keys.Keys.{Keys}
use Rattle.datasketches_cli.specs.declared.keys.Keys.TheVariants as keys

-- the choice that a value names, if any: the word `plain`, or 16 bytes as 32 hexadecimal digits of either case
abbrev pub choice_of : List ℕ → Option Choice
choice_of value = if bytes_eq value (codes "plain") then Some Plain else option_map Bytes (result_ok (decode_sized value 16))

-- the key of the tables under the keys of a run
abbrev pub table_key : Keys → TableKey
table_key keys.Plain = table.Plain
table_key (keys.Keyed key maps) = table.Keyed key

-- a map hashes under the keys of a run. Without keys it hashes by std's fixed hash, which is not stated
abbrev pub HashesUnder : Keys → MapState → Type 0
HashesUnder keys.Plain hasher = Unit {0}
HashesUnder (keys.Keyed key maps) hasher = hasher ≡ Random maps

-- a session has the keys of a run: for its tables, and for the names of its sketches and images
pub record HasKeys (keys : Keys) (own : SessionKeys) : Type 0 where
  pub table : own.table ≡ table_key keys
  pub sketch_names : HashesUnder keys own.sketch_names
  pub image_names : HashesUnder keys own.image_names

-- tables hash under this key
abbrev pub HasTableKey : ℕ × ℕ → Keys → Type 0
HasTableKey key made = table_key made ≡ table.Keyed key

-- tables hash under some key
abbrev pub IsKeyed : Keys → Type 0
IsKeyed made = (key : ℕ × ℕ) × HasTableKey key made

-- the keys of a choice: none, or tables hash under the two words of the bytes
abbrev pub IsChosen : Choice → Keys → Type 0
IsChosen Plain made = made ≡ keys.Plain
IsChosen (Bytes bytes) made = HasTableKey (word_at bytes 0, word_at bytes 8) made

-- the keys of the choice that a value names, or an error if it names none
abbrev pub AreGiven : Option Choice → Result Keys KeyFault → Type 0
AreGiven None result = result ≡ Err BadValue
AreGiven (Some choice) result = IfOk result (IsChosen choice)

-- the bytes of the key of maps, by the key of tables: the hashes of two labels
abbrev pub map_key : ℕ × ℕ → List ℕ
map_key table =
    to_le_bytes w64 (sip_hash_1_3 table (codes "maps 0")) ++ to_le_bytes w64 (sip_hash_1_3 table (codes "maps 1"))
