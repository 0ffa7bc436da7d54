-- MurmurHash3 x64 128 by Austin Appleby, with a seed of 64 bits, as a function of a whole list of bytes.
-- The steps are named as in its source, MurmurHash3.cpp.
use Rattle.std.specs.Prelude.{ℕ, zero, suc, ◌-◌, ◌*◌, ◌/◌, ◌%◌, ◌^◌, List, ◌++◌, length, take, drop, replicate, bit_xor}
use Rattle.std.specs.Int.{w64, rotate_left}
use Rattle.sketch_base.specs.MachineWords.{wrapping_add, wrapping_mul, word_at}

abbrev pub c1 : ℕ
c1 = 0x87C37B91114253D5

abbrev pub c2 : ℕ
c2 = 0x4CF5AD432745937F

-- the mix of a block's two words, before they are combined with the halves
unfoldable pub mix_k1 : ℕ → ℕ
mix_k1 k = wrapping_mul (rotate_left w64 (wrapping_mul k c1) 31) c2

unfoldable pub mix_k2 : ℕ → ℕ
mix_k2 k = wrapping_mul (rotate_left w64 (wrapping_mul k c2) 33) c1

-- the two halves after one block, from its two words
unfoldable pub block_of_words : ℕ × ℕ → ℕ → ℕ → ℕ × ℕ
block_of_words h k1 k2 =
    let h1 = wrapping_add (wrapping_mul (wrapping_add (rotate_left w64 (bit_xor h.0 (mix_k1 k1)) 27) h.1) 5) 0x52DCE729 in
    let h2 = wrapping_add (wrapping_mul (wrapping_add (rotate_left w64 (bit_xor h.1 (mix_k2 k2)) 31) h1) 5) 0x38495AB5 in
    (h1, h2)

-- the two halves after one block of 16 bytes
unfoldable pub block : ℕ × ℕ → List ℕ → ℕ × ℕ
block h bytes = block_of_words h (word_at bytes 0) (word_at bytes 8)

-- the halves after the first n blocks
unfoldable pub body : ℕ → ℕ × ℕ → List ℕ → ℕ × ℕ
body zero h bytes = h
body (suc n) h bytes = body n (block h (take 16 bytes)) (drop 16 bytes)

-- finalization mix of one half
unfoldable pub fmix64 : ℕ → ℕ
fmix64 k =
    let a = wrapping_mul (bit_xor k (k / 2 ^ 33)) 0xFF51AFD7ED558CCD in
    let b = wrapping_mul (bit_xor a (a / 2 ^ 33)) 0xC4CEB9FE1A85EC53 in
    bit_xor b (b / 2 ^ 33)

-- fewer than 16 bytes, filled with zeros to a block
abbrev pub padded : List ℕ → List ℕ
padded rest = rest ++ replicate (16 - length rest) 0

-- tail and finalization: both halves of the hash, from the halves after all whole blocks, the two words of the padded
-- rest and the length
unfoldable pub finish_words : ℕ × ℕ → ℕ → ℕ → ℕ → ℕ × ℕ
finish_words h k1 k2 len =
    let h1 = bit_xor (bit_xor h.0 (mix_k1 k1)) len in
    let h2 = bit_xor (bit_xor h.1 (mix_k2 k2)) len in
    let a = fmix64 (wrapping_add h1 h2) in
    let b = fmix64 (wrapping_add h2 (wrapping_add h1 h2)) in
    (wrapping_add a b, wrapping_add b (wrapping_add a b))

-- the same, from the padded rest
unfoldable pub finalization : ℕ × ℕ → List ℕ → ℕ → ℕ × ℕ
finalization h rest len = finish_words h (word_at rest 0) (word_at rest 8) len

-- both halves of the hash of a whole list under a seed
unfoldable pub murmur3_x64_128 : List ℕ → ℕ → ℕ × ℕ
murmur3_x64_128 bytes seed =
    let n = length bytes / 16 in
    finalization (body n (seed, seed) bytes) (padded (drop (16 * n) bytes)) (length bytes % 2 ^ 64)
