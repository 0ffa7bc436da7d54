-- The request to a builder, and when it is rejected.
use Rattle.std.specs.Prelude.{ℕ, ◌+◌, ◌/◌, nat_lt, ◌||◌, ◌==◌, Option, Some, None, if◌then◌else◌}
use Rattle.sketch_base.specs.declared.fault.Fault.{Fault}
use Rattle.sketch_base.specs.declared.fault.Fault.TheVariants.{BadNumBits, BadNumHashes}

-- the numbers of bits and hashes, and the seed
pub record Request : Type 0 where
  pub num_bits : ℕ
  pub num_hashes : ℕ
  pub seed : ℕ

-- the fault of a request, if any: it has 1 to 137438953152 bits and 1 to 32767 hashes
abbrev pub request_fault : Request → Option Fault
request_fault r =
    if (r.num_bits == 0) || nat_lt 137438953152 r.num_bits then Some BadNumBits
    else (if (r.num_hashes == 0) || nat_lt 32767 r.num_hashes then Some BadNumHashes else None)

-- the number of words for this number of bits
abbrev pub words_for : ℕ → ℕ
words_for num_bits = (num_bits + 63) / 64
