-- The hash of an item, by the key of its table.
use Rattle.std.specs.Prelude.{ℕ, List}
use Rattle.sketch_base.specs.Hashes.{fed_bytes}
use Rattle.sketch_base.specs.Murmur3.{murmur3_x64_128}
use Rattle.sketch_base.specs.SipHash.{sip_hash_1_3}
use Rattle.counter_table.specs.declared.table_key.TableKey.{TableKey}
use Rattle.counter_table.specs.declared.table_key.TableKey.TheVariants.{Plain, Keyed}

-- the hash of an item that feeds these bytes: the first half of MurmurHash3 x64 128 under the seed 9001, or SipHash-1-3 under
-- the key
unfoldable pub hash_of : TableKey → List ℕ → ℕ
hash_of Plain bytes = (murmur3_x64_128 bytes 9001).0
hash_of (Keyed key) bytes = sip_hash_1_3 key bytes

-- the hash of an item, where `input` are the writes of its `Hash`
abbrev pub hash_in : {T : Type 0} → TableKey → (T → List (List ℕ)) → T → ℕ
hash_in key input x = hash_of key (fed_bytes input x)
