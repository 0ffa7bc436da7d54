-- MurmurHash3 x64 128 of bytes that arrive in pieces.
use Rattle.std.specs.Prelude.{◌≡◌, ℕ, ◌+◌, ◌*◌, ◌/◌, ◌%◌, ◌^◌, List, [], ◌++◌, length, drop}
use Rattle.sketch_base.specs.Murmur3.{body, padded, finalization}

-- the state of a hasher: the halves after all whole blocks, the bytes since then, and the number of bytes modulo 2^64
pub record Murmur3State : Type 0 where
  pub halves : ℕ × ℕ
  pub tail : List ℕ
  pub total : ℕ

-- the state before the first byte
unfoldable pub initial : ℕ → Murmur3State
initial seed = record { halves = (seed, seed); tail = []; total = 0 }

-- the state after one more piece
unfoldable pub write : Murmur3State → List ℕ → Murmur3State
write s piece =
    let whole = s.tail ++ piece in
    let n = length whole / 16 in
    record { halves = body n s.halves whole; tail = drop (16 * n) whole; total = (s.total + length piece) % 2 ^ 64 }

-- both halves of the hash, and the first half
unfoldable pub finish128 : Murmur3State → ℕ × ℕ
finish128 s = finalization s.halves (padded s.tail) s.total

abbrev pub finish : Murmur3State → ℕ
finish s = (finish128 s).0

-- a hasher with this seed was fed exactly these bytes, in any pieces
pub record HasFed (seed : ℕ) (bytes : List ℕ) (s : Murmur3State) : Type 0 where
  pub state_is : s ≡ write (initial seed) bytes
