-- XXH64 of bytes that arrive in pieces.
use Rattle.std.specs.Prelude.{◌≡◌, ℕ, ◌+◌, ◌*◌, ◌/◌, ◌%◌, ◌^◌, Bool, false, ◌||◌, nat_lt, if◌then◌else◌, List, [], ◌++◌, length, drop}
use Rattle.sketch_base.specs.MachineWords.{wrapping_add}
use Rattle.sketch_base.specs.Xxh64.{Accumulators, prime64_5, initial_accumulators, stripes, convergence, finalization}

-- the state of a hasher: the seed, the accumulators after all whole stripes, whether there was a whole stripe, the
-- bytes since then, and the number of bytes modulo 2^64
pub record Xxh64State : Type 0 where
  pub seed : ℕ
  pub accumulators : Accumulators
  pub is_long : Bool
  pub tail : List ℕ
  pub total : ℕ

-- the state before the first byte
unfoldable pub initial : ℕ → Xxh64State
initial seed = record { seed = seed; accumulators = initial_accumulators seed; is_long = false; tail = []; total = 0 }

-- the state after one more piece
unfoldable pub write : Xxh64State → List ℕ → Xxh64State
write s piece =
    let whole = s.tail ++ piece in
    let n = length whole / 32 in
    record {
      seed = s.seed;
      accumulators = stripes n s.accumulators whole;
      is_long = s.is_long || nat_lt 0 n;
      tail = drop (32 * n) whole;
      total = (s.total + length piece) % 2 ^ 64;
    }

-- the hash
unfoldable pub finish : Xxh64State → ℕ
finish s =
    let h = if s.is_long then convergence s.accumulators else wrapping_add s.seed prime64_5 in
    finalization (wrapping_add h s.total) s.tail

-- a hasher with this seed was fed exactly these bytes, in any pieces
pub record HasFed (seed : ℕ) (bytes : List ℕ) (s : Xxh64State) : Type 0 where
  pub state_is : s ≡ write (initial seed) bytes
