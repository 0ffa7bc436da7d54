-- SipHash of bytes that arrive in pieces.
use Rattle.std.specs.Prelude.{◌≡◌, ℕ, ◌+◌, ◌-◌, ◌*◌, ◌/◌, ◌%◌, ◌^◌, List, [], ◌∷◌, ◌++◌, length, drop, replicate}
use Rattle.std.specs.List.{fold}
use Rattle.sketch_base.specs.MachineWords.{le_number}
use Rattle.sketch_base.specs.SipHash.{State, initialization, compression, finalization, words}

-- the state of a hasher: that after all whole words, the bytes since then, and the number of bytes modulo 2^64
pub record SipHashState : Type 0 where
  pub state : State
  pub tail : List ℕ
  pub total : ℕ

-- the state before the first byte
unfoldable pub initial : ℕ × ℕ → SipHashState
initial key = record { state = initialization key; tail = []; total = 0 }

-- the state after one more piece
unfoldable pub write : SipHashState → List ℕ → SipHashState
write s piece =
    let whole = s.tail ++ piece in
    let n = length whole / 8 in
    record {
      state = fold (compression 1) s.state (words n whole);
      tail = drop (8 * n) whole;
      total = (s.total + length piece) % 2 ^ 64;
    }

-- the hash
unfoldable pub finish : SipHashState → ℕ
finish s =
    finalization 3 (compression 1 s.state (le_number (s.tail ++ replicate (7 - length s.tail) 0 ++ s.total % 256 ∷ [])))

-- a hasher with this key was fed exactly these bytes, in any pieces
pub record HasFed (key : ℕ × ℕ) (bytes : List ℕ) (s : SipHashState) : Type 0 where
  pub state_is : s ≡ write (initial key) bytes
