-- The values that fix the key of a run.
use Rattle.std.specs.Prelude.{ℕ, List, [], Option, Some, if◌then◌else◌, codes, option_map}
use Rattle.std.specs.Result.{result_ok}
use Rattle.std.specs.Str.{bytes_eq}
use Rattle.counter_table.specs.declared.table_key.TableKey.{TableKey}
use Rattle.counter_table.specs.declared.table_key.TableKey.TheVariants.{Plain, Keyed}
use Rattle.hex.specs.Hex.{decode_sized}
use Rattle.sketch_base.specs.MachineWords.{word_at}
use Rattle.sketch_base.specs.SipHash.{sip_hash_1_3}

-- the key that a value names, if any: none for the word `plain`, or the two words of 16 bytes in 32 hexadecimal digits
abbrev pub given_key : List ℕ → Option TableKey
given_key value =
    if bytes_eq value (codes "plain") then Some Plain
    else option_map (λ bytes. Keyed (word_at bytes 0, word_at bytes 8)) (result_ok (decode_sized value 16))

-- the seed of a filter under a key: that of the published formats, or the hash of no bytes under the key
abbrev pub seed_of : TableKey → ℕ
seed_of Plain = 9001
seed_of (Keyed key) = sip_hash_1_3 key []
