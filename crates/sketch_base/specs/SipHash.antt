-- SipHash-c-d by Jean-Philippe Aumasson and Daniel J. Bernstein (2012) as a function of a key and a whole list of bytes.
-- The steps are named as in 'SipHash: a fast short-input PRF'.
use Rattle.std.specs.Prelude.{ℕ, zero, suc, ◌-◌, ◌/◌, ◌%◌, List, [], ◌∷◌, ◌++◌, length, take, drop, replicate, bit_xor}
use Rattle.std.specs.List.{fold}
use Rattle.std.specs.Int.{w64, rotate_left}
use Rattle.sketch_base.specs.MachineWords.{wrapping_add, le_number}

-- the internal state: v0, v1, v2 and v3
abbrev pub State : Type 0
State = ℕ × ℕ × ℕ × ℕ

-- initialization, from the two words of the key
unfoldable pub initialization : ℕ × ℕ → State
initialization key = (
  bit_xor key.0 0x736F6D6570736575,
  bit_xor key.1 0x646F72616E646F6D,
  bit_xor key.0 0x6C7967656E657261,
  bit_xor key.1 0x7465646279746573,
)

-- one SipRound
unfoldable pub sip_round : State → State
sip_round v =
    let a0 = wrapping_add v.0 v.1 in
    let a1 = bit_xor (rotate_left w64 v.1 13) a0 in
    let a2 = wrapping_add v.2 v.3 in
    let a3 = bit_xor (rotate_left w64 v.3 16) a2 in
    let b2 = wrapping_add a2 a1 in
    let b1 = bit_xor (rotate_left w64 a1 17) b2 in
    let b0 = wrapping_add (rotate_left w64 a0 32) a3 in
    let b3 = bit_xor (rotate_left w64 a3 21) b0 in
    (b0, b1, rotate_left w64 b2 32, b3)

-- n SipRounds
unfoldable pub sip_rounds : ℕ → State → State
sip_rounds zero v = v
sip_rounds (suc n) v = sip_rounds n (sip_round v)

-- compression of one word, with c rounds
unfoldable pub compression : ℕ → State → ℕ → State
compression c v m =
    let w = sip_rounds c (v.0, v.1, v.2, bit_xor v.3 m) in
    (bit_xor w.0 m, w.1, w.2, w.3)

-- finalization, with d rounds
unfoldable pub finalization : ℕ → State → ℕ
finalization d v =
    let w = sip_rounds d (v.0, v.1, bit_xor v.2 0xFF, v.3) in
    bit_xor (bit_xor (bit_xor w.0 w.1) w.2) w.3

-- the bytes, then zeros, and then a byte with their number modulo 256, which completes a word
unfoldable pub padded : List ℕ → List ℕ
padded bytes = bytes ++ replicate (7 - length bytes % 8) 0 ++ length bytes % 256 ∷ []

-- the first n words of eight bytes, little-endian
unfoldable pub words : ℕ → List ℕ → List ℕ
words zero bytes = []
words (suc n) bytes = le_number (take 8 bytes) ∷ words n (drop 8 bytes)

-- the hash of a whole list under a key, with c rounds for each word and d at the end
unfoldable pub sip_hash : ℕ → ℕ → ℕ × ℕ → List ℕ → ℕ
sip_hash c d key bytes =
    finalization d (fold (compression c) (initialization key) (words (length (padded bytes) / 8) (padded bytes)))

-- SipHash-1-3
abbrev pub sip_hash_1_3 : ℕ × ℕ → List ℕ → ℕ
sip_hash_1_3 key bytes = sip_hash 1 3 key bytes
