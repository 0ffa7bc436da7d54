-- Words that are read from bytes where they lie.
use Rattle.std.proofs.Common.{◌≡◌, ℕ, zero, suc, ◌+◌, ◌*◌, ◌/◌, ◌<◌, ◌≤◌, List, take, drop, length, get_or, refl, ap, ◌∙◌, arith, drop-drop}
use Rattle.std.specs.Int.{w64, from_le_bytes}
use Rattle.std.proofs.lemmas.List.{take-take, drop-take, length-take-le}
use Rattle.sketch_base.specs.Fields.{le_at, words_in}
use Rattle.sketch_bloom.specs.BitSet.{words_of_bytes}
use Rattle.sketch_bloom.proofs.Images.{length-words_in}

-- a word is the number at its index
word_at : (n : ℕ) (bytes : List ℕ) (i : ℕ) → i < n → get_or (words_in n bytes) i 0 ≡ le_at w64 bytes (8 * i)
unfolding le_at
word_at zero bytes i l = absurd (omega arith)
word_at (suc n) bytes zero l = refl
word_at (suc n) bytes (suc i) l =
    word_at n (drop 8 bytes) i (omega arith)
    ∙ ap (λ (rest : List ℕ). from_le_bytes w64 (take 8 rest)) (drop-drop (8 * i) 8 bytes ∙ ap (λ (k : ℕ). drop k bytes) (omega arith))

-- a word of bytes
pub word_of_bytes : (bytes : List ℕ) (i : ℕ) → i < length (words_of_bytes bytes) → get_or (words_of_bytes bytes) i 0 ≡ le_at w64 bytes (8 * i)
word_of_bytes bytes i l = word_at (length bytes / 8) bytes i (omega (arith, length-words_in (length bytes / 8) bytes))

-- its bytes are there
pub word_within : (bytes : List ℕ) (i : ℕ) → i < length (words_of_bytes bytes) → 8 * i + 8 ≤ length bytes
word_within bytes i l = omega (arith, length-words_in (length bytes / 8) bytes)

-- the first words do not depend on what stands behind them
words_in_take : (n : ℕ) (bytes : List ℕ) → words_in n (take (8 * n) bytes) ≡ words_in n bytes
unfolding le_at
words_in_take zero bytes = refl
words_in_take (suc n) bytes =
    let size : 8 * suc n ≡ 8 + 8 * n = omega arith in
    let first : take 8 (take (8 * suc n) bytes) ≡ take 8 bytes = take-take 8 (8 * suc n) bytes (omega arith) in
    let rest : drop 8 (take (8 * suc n) bytes) ≡ take (8 * n) (drop 8 bytes) = ap (λ (k : ℕ). drop 8 (take k bytes)) size ∙ drop-take 8 (8 * n) bytes in
    rw (first, rest, words_in_take n (drop 8 bytes)) refl

-- the words of the bytes of some words
pub words_of_part : (n : ℕ) (bytes : List ℕ) → 8 * n ≤ length bytes → words_of_bytes (take (8 * n) bytes) ≡ words_in n bytes
words_of_part n bytes fits =
    let size : length (take (8 * n) bytes) ≡ 8 * n = length-take-le (8 * n) bytes fits in
    ap (λ (k : ℕ). words_in k (take (8 * n) bytes)) (omega (arith, size)) ∙ words_in_take n bytes
