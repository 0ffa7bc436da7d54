-- XXH64 by Yann Collet as a function of a whole list of bytes.
-- The steps are named as in its description, 'xxHash fast digest algorithm'.
use Rattle.std.specs.Prelude.{ℕ, zero, suc, ◌-◌, ◌*◌, ◌/◌, ◌%◌, ◌^◌, nat_lt, nat_le, if◌then◌else◌, List, length, take, drop, bit_xor}
use Rattle.std.specs.List.{fold}
use Rattle.std.specs.Int.{w64, rotate_left}
use Rattle.sketch_base.specs.MachineWords.{wrapping_add, wrapping_mul, word_at, half_word_at}

abbrev pub prime64_1 : ℕ
prime64_1 = 0x9E3779B185EBCA87

abbrev pub prime64_2 : ℕ
prime64_2 = 0xC2B2AE3D27D4EB4F

abbrev pub prime64_3 : ℕ
prime64_3 = 0x165667B19E3779F9

abbrev pub prime64_4 : ℕ
prime64_4 = 0x85EBCA77C2B2AE63

abbrev pub prime64_5 : ℕ
prime64_5 = 0x27D4EB2F165667C5

-- the four accumulators
abbrev pub Accumulators : Type 0
Accumulators = ℕ × ℕ × ℕ × ℕ

-- an accumulator after one lane of eight bytes
unfoldable pub round : ℕ → ℕ → ℕ
round acc lane = wrapping_mul (rotate_left w64 (wrapping_add acc (wrapping_mul lane prime64_2)) 31) prime64_1

-- initialize the accumulators
unfoldable pub initial_accumulators : ℕ → Accumulators
initial_accumulators seed =
    let first = wrapping_add seed (wrapping_add prime64_1 prime64_2) in
    (first, wrapping_add seed prime64_2, seed, wrapping_add seed (2 ^ 64 - prime64_1))

-- the accumulators after one stripe, from its four words
abbrev pub stripe_of_words : Accumulators → Accumulators → Accumulators
stripe_of_words acc lanes = (round acc.0 lanes.0, round acc.1 lanes.1, round acc.2 lanes.2, round acc.3 lanes.3)

-- the accumulators after one stripe of 32 bytes
unfoldable pub stripe : Accumulators → List ℕ → Accumulators
stripe acc bytes = stripe_of_words acc (word_at bytes 0, word_at bytes 8, word_at bytes 16, word_at bytes 24)

-- process stripes: the accumulators after the first n of them
unfoldable pub stripes : ℕ → Accumulators → List ℕ → Accumulators
stripes zero acc bytes = acc
stripes (suc n) acc bytes = stripes n (stripe acc (take 32 bytes)) (drop 32 bytes)

-- accumulator convergence
unfoldable pub merge_accumulator : ℕ → ℕ → ℕ
merge_accumulator h acc = wrapping_add (wrapping_mul (bit_xor h (round 0 acc)) prime64_1) prime64_4

unfoldable pub convergence : Accumulators → ℕ
convergence acc =
    let first = wrapping_add (rotate_left w64 acc.0 1) (rotate_left w64 acc.1 7) in
    let h = wrapping_add (wrapping_add first (rotate_left w64 acc.2 12)) (rotate_left w64 acc.3 18) in
    merge_accumulator (merge_accumulator (merge_accumulator (merge_accumulator h acc.0) acc.1) acc.2) acc.3

-- consume remaining input: by eight bytes, by four, by one
unfoldable pub consume_word : ℕ → ℕ → ℕ
consume_word h lane = wrapping_add (wrapping_mul (rotate_left w64 (bit_xor h (round 0 lane)) 27) prime64_1) prime64_4

unfoldable pub consume_half_word : ℕ → ℕ → ℕ
consume_half_word h lane =
    wrapping_add (wrapping_mul (rotate_left w64 (bit_xor h (wrapping_mul lane prime64_1)) 23) prime64_2) prime64_3

unfoldable pub consume_byte : ℕ → ℕ → ℕ
consume_byte h lane = wrapping_mul (rotate_left w64 (bit_xor h (wrapping_mul lane prime64_5)) 11) prime64_1

-- the hash after the first n words of the rest
unfoldable pub consume_words : ℕ → ℕ → List ℕ → ℕ
consume_words zero h rest = h
consume_words (suc n) h rest = consume_word (consume_words n h rest) (word_at rest (8 * n))

-- the hash after the last bytes, fewer than eight
unfoldable pub consume_bytes : ℕ → List ℕ → ℕ
consume_bytes h rest =
    if nat_le 4 (length rest) then fold consume_byte (consume_half_word h (half_word_at rest 0)) (drop 4 rest)
    else fold consume_byte h rest

-- final mix
unfoldable pub avalanche : ℕ → ℕ
avalanche h =
    let a = wrapping_mul (bit_xor h (h / 2 ^ 33)) prime64_2 in
    let b = wrapping_mul (bit_xor a (a / 2 ^ 29)) prime64_3 in
    bit_xor b (b / 2 ^ 32)

-- the hash, from the converged number plus the length, and the rest of fewer than 32 bytes
unfoldable pub finalization : ℕ → List ℕ → ℕ
finalization h rest =
    avalanche (consume_bytes (consume_words (length rest / 8) h rest) (drop (8 * (length rest / 8)) rest))

-- the hash of a whole list under a seed
unfoldable pub xxh64 : List ℕ → ℕ → ℕ
xxh64 bytes seed =
    let n = length bytes / 32 in
    let long = convergence (stripes n (initial_accumulators seed) bytes) in
    let h = if nat_lt 0 n then long else wrapping_add seed prime64_5 in
    finalization (wrapping_add h (length bytes % 2 ^ 64)) (drop (32 * n) bytes)
