-- The bytes after the last whole block, and the byte 255: their number by loads that overlap, and the hash.
use Rattle.std.proofs.Common.{◌≡◌, ℕ, ◌+◌, ◌-◌, ◌*◌, ◌/◌, ◌%◌, ◌^◌, ◌<◌, ◌≤◌, List, [], ◌∷◌, ◌++◌, length, get_or, take, drop, replicate, bit_and, bit_or, refl, sym, ap, subst, ◌∙◌, arith, length-append, length-drop}
use Rattle.std.proofs.lemmas.List.{append_assoc, drop-drop, take-append-drop, take_all, drop_all, length-take-le, length-replicate}
use Rattle.std.proofs.lemmas.Nat.{and_mask, or_comm, or_shifted, or_block, shr_le}
use Rattle.std.specs.Int.Bits.{or_self, or_zero_l}
use Rattle.std.specs.Int.{w32, w64}
use Rattle.sketch_base.specs.Fields.{le_at}
use Rattle.sketch_base.specs.MachineWords.{le_number, word_at}
use Rattle.sketch_base.specs.Murmur3.{block, block_of_words, body, padded, finalization, finish_words, murmur3_x64_128}
use Rattle.sketch_base.proofs.Blocks.{each_more, tail_more}
use Rattle.sketch_base.proofs.Blocks.Width.{Sixteen}
use Rattle.sketch_base.proofs.LittleEndian.{AreBytes, are-drop, are-filled, are-more, number-append, number-below, number-zeros, u64_is, u32_is, low_word, high_word, last_is, pow256}
use Rattle.sketch_base.proofs.Murmur3Pieces.{body_is}

-- ---- the number

-- one to three bytes
of_one : (a p q : ℕ) → p ≡ a → q ≡ a → bit_or (bit_or a p) q ≡ a
of_one a p q ep eq = (λ i. bit_or (bit_or a (ep i)) (eq i)) ∙ (ap (λ (n : ℕ). bit_or n a) (or_self a) ∙ or_self a)

of_two : (a b p q : ℕ) → a < 256 → p ≡ b * 2 ^ 8 → q ≡ b * 2 ^ 8 → bit_or (bit_or a p) q ≡ b * 2 ^ 8 + a
of_two a b p q lt ep eq =
    let first : bit_or a (b * 2 ^ 8) ≡ b * 2 ^ 8 + a = or_comm a (b * 2 ^ 8) ∙ or_shifted b 8 a lt in
    let zero_more : b * 2 ^ 8 ≡ b * 2 ^ 8 + 0 = omega arith in
    (λ i. bit_or (bit_or a (ep i)) (eq i))
    ∙ ((λ i. bit_or (first i) (zero_more i))
    ∙ (or_block 8 b b a 0 lt (omega arith)
    ∙ (λ i. or_self b i * 2 ^ 8 + (or_comm a 0 ∙ or_zero_l a) i)))

of_three : (a b c p q : ℕ) → a < 256 → b < 256 → p ≡ b * 2 ^ 8 → q ≡ c * 2 ^ 16 → bit_or (bit_or a p) q ≡ c * 2 ^ 16 + (b * 2 ^ 8 + a)
of_three a b c p q la lb ep eq =
    let first : bit_or a (b * 2 ^ 8) ≡ b * 2 ^ 8 + a = or_comm a (b * 2 ^ 8) ∙ or_shifted b 8 a la in
    (λ i. bit_or (bit_or a (ep i)) (eq i))
    ∙ (ap (λ (n : ℕ). bit_or n (c * 2 ^ 16)) first
    ∙ (or_comm (b * 2 ^ 8 + a) (c * 2 ^ 16) ∙ or_shifted c 16 (b * 2 ^ 8 + a) (omega arith)))

pub few_are : (bytes : List ℕ) → 0 < length bytes → length bytes < 4 → AreBytes bytes
    → bit_or (bit_or (get_or bytes 0 0) (get_or bytes (length bytes / 2) 0 * 2 ^ (8 * (length bytes / 2)) % 2 ^ 64)) (get_or bytes (length bytes - 1) 0 * 2 ^ (8 * (length bytes - 1)) % 2 ^ 64) ≡ le_number bytes
few_are [] some few small = absurd (omega arith)
few_are (a ∷ []) some few small =
    let la : a < 256 = small 0 in
    of_one a _ _ (omega arith) (omega arith) ∙ omega arith
few_are (a ∷ b ∷ []) some few small =
    let la : a < 256 = small 0 in
    let lb : b < 256 = small 1 in
    of_two a b _ _ la (omega arith) (omega arith) ∙ omega arith
few_are (a ∷ b ∷ c ∷ []) some few small =
    let la : a < 256 = small 0 in
    let lb : b < 256 = small 1 in
    let lc : c < 256 = small 2 in
    of_three a b c _ _ la lb (omega arith) (omega arith) ∙ omega arith
few_are (a ∷ b ∷ c ∷ d ∷ bytes) some few small = absurd (omega arith)

pub few_fit : (bytes : List ℕ) → length bytes < 4 → AreBytes bytes → le_number bytes + 255 * 2 ^ (8 * length bytes) % 2 ^ 64 < 2 ^ 64
few_fit [] few small = omega arith
few_fit (a ∷ []) few small = omega (arith, small 0)
few_fit (a ∷ b ∷ []) few small = omega (arith, small 0, small 1)
few_fit (a ∷ b ∷ c ∷ []) few small = omega (arith, small 0, small 1, small 2)
few_fit (a ∷ b ∷ c ∷ d ∷ bytes) few small = absurd (omega arith)

pub few_ended : (bytes : List ℕ) → length bytes < 4 → le_number bytes + 255 * 2 ^ (8 * length bytes) % 2 ^ 64 ≡ le_number (bytes ++ 255 ∷ [])
few_ended [] few = omega arith
few_ended (a ∷ []) few = omega arith
few_ended (a ∷ b ∷ []) few = omega arith
few_ended (a ∷ b ∷ c ∷ []) few = omega arith
few_ended (a ∷ b ∷ c ∷ d ∷ bytes) few = absurd (omega arith)

-- the first k bytes, and the others with the byte 255
split_end : (k : ℕ) (bytes : List ℕ) → k ≤ length bytes → le_number (take k bytes) + 256 ^ k * le_number (drop k bytes ++ 255 ∷ []) ≡ le_number (bytes ++ 255 ∷ [])
split_end k bytes le =
    let whole : take k bytes ++ (drop k bytes ++ 255 ∷ []) ≡ bytes ++ 255 ∷ [] = sym (append_assoc (take k bytes) (drop k bytes) (255 ∷ [])) ∙ ap (λ (bs : List ℕ). bs ++ 255 ∷ []) (take-append-drop k bytes) in
    ap (λ (n : ℕ). le_number (take k bytes) + 256 ^ n * le_number (drop k bytes ++ 255 ∷ [])) (sym (length-take-le k bytes le))
    ∙ (sym (number-append (take k bytes) (drop k bytes ++ 255 ∷ [])) ∙ ap le_number whole)

-- from the last eight bytes
pub last_word : (bytes : List ℕ) (last s : ℕ) → 8 ≤ length bytes → AreBytes bytes → last ≡ le_at w64 bytes (length bytes - 8) → s ≡ 8 * (7 - length bytes % 8)
    → (last / 256 + 255 * 2 ^ 56) / 2 ^ s ≡ le_number (drop (8 * (length bytes / 8)) bytes ++ 255 ∷ [])
last_word bytes last s le small el es =
    let k : ℕ = length bytes - 8 in
    let tail : last ≡ le_number (drop k bytes) = el ∙ (u64_is bytes k (omega arith) ∙ ap le_number (take_all 8 (drop k bytes) (omega (arith, length-drop k bytes)))) in
    let at : length bytes - length bytes % 8 ≡ 8 * (length bytes / 8) = omega arith in
    ap (λ (n : ℕ). (n / 256 + 255 * 2 ^ 56) / 2 ^ s) tail
    ∙ (last_is 7 (length bytes % 8) s 255 bytes le (omega arith) small (omega arith)
    ∙ ap (λ (n : ℕ). le_number (drop n bytes ++ 255 ∷ [])) at)

-- from the first word, and the number of the others
pub two_words : (bytes : List ℕ) (first last : ℕ) → 8 ≤ length bytes → length bytes < 16 → first ≡ le_at w64 bytes 0 → last ≡ le_number (drop (8 * (length bytes / 8)) bytes ++ 255 ∷ [])
    → first + last * 2 ^ 64 ≡ le_number (drop (16 * (length bytes / 16)) bytes ++ 255 ∷ [])
two_words bytes first last le lt ef el =
    let one : 8 * (length bytes / 8) ≡ 8 = omega arith in
    let none : 16 * (length bytes / 16) ≡ 0 = omega arith in
    let high : last ≡ le_number (drop 8 bytes ++ 255 ∷ []) = el ∙ ap (λ (n : ℕ). le_number (drop n bytes ++ 255 ∷ [])) one in
    omega (arith, ef ∙ u64_is bytes 0 le, high, split_end 8 bytes le) ∙ ap (λ (n : ℕ). le_number (drop n bytes ++ 255 ∷ [])) (sym none)

-- from the first half word and the last one
pub two_halves : (bytes : List ℕ) (first last : ℕ) → 4 ≤ length bytes → length bytes < 8 → AreBytes bytes → first ≡ le_at w32 bytes 0 → last ≡ le_at w32 bytes (length bytes - 4)
    → first + (last / 256 + 255 * 2 ^ 24) / 2 ^ (8 * (7 - length bytes)) * 2 ^ 32 % 2 ^ 64 ≡ le_number (bytes ++ 255 ∷ [])
two_halves bytes first last le lt small ef el =
    let k : ℕ = length bytes - 4 in
    let tail : last ≡ le_number (drop k bytes) = el ∙ (u32_is bytes k (omega arith) ∙ ap le_number (take_all 4 (drop k bytes) (omega (arith, length-drop k bytes)))) in
    let high : (le_number (drop k bytes) / 256 + 255 * 2 ^ 24) / 2 ^ (8 * (7 - length bytes)) ≡ le_number (drop (length bytes - k) bytes ++ 255 ∷ []) = last_is 3 k (8 * (7 - length bytes)) 255 bytes le (omega arith) small (omega arith) in
    let at : length bytes - k ≡ 4 = omega arith in
    let high_is : (last / 256 + 255 * 2 ^ 24) / 2 ^ (8 * (7 - length bytes)) ≡ le_number (drop 4 bytes ++ 255 ∷ []) = ap (λ (n : ℕ). (n / 256 + 255 * 2 ^ 24) / 2 ^ (8 * (7 - length bytes))) tail ∙ (high ∙ ap (λ (n : ℕ). le_number (drop n bytes ++ 255 ∷ [])) at) in
    let many : length (drop k bytes) ≡ 4 = length-drop k bytes ∙ omega arith in
    let below : le_number (drop k bytes) < 256 ^ 4 = subst (λ (n : ℕ). le_number (drop k bytes) < 256 ^ n) many (number-below (drop k bytes) (are-drop k bytes small)) in
    let shifted = shr_le (last / 256 + 255 * 2 ^ 24) (8 * (7 - length bytes)) in
    omega (arith, ef ∙ u32_is bytes 0 le, tail, below, shifted, high_is, split_end 4 bytes le)

-- the last 16 bytes
pub last_block : (bytes : List ℕ) (first last s : ℕ) → 16 ≤ length bytes → AreBytes bytes → first ≡ le_at w64 bytes (length bytes - 16) → last ≡ le_at w64 bytes (length bytes - 8) → s ≡ 8 * (15 - length bytes % 16)
    → ((first + last * 2 ^ 64) / 256 + 255 * 2 ^ 120) / 2 ^ s ≡ le_number (drop (16 * (length bytes / 16)) bytes ++ 255 ∷ [])
last_block bytes first last s le small ef el es =
    let k : ℕ = length bytes - 16 in
    let ys : List ℕ = drop k bytes in
    let long : length ys ≡ 16 = length-drop k bytes ∙ omega arith in
    let low : first ≡ le_number (take 8 ys) = ef ∙ u64_is bytes k (omega arith) in
    let after : drop (length bytes - 8) bytes ≡ drop 8 ys = sym (drop-drop 8 k bytes ∙ ap (λ (n : ℕ). drop n bytes) (omega arith)) in
    let high : last ≡ le_number (drop 8 ys) = el ∙ (u64_is bytes (length bytes - 8) (omega arith) ∙ (ap (λ (bs : List ℕ). le_number (take 8 bs)) after ∙ ap le_number (take_all 8 (drop 8 ys) (omega (arith, length-drop 8 ys))))) in
    let both : le_number ys ≡ le_number (take 8 ys) + 256 ^ 8 * le_number (drop 8 ys) = ap le_number (sym (take-append-drop 8 ys)) ∙ (number-append (take 8 ys) (drop 8 ys) ∙ ap (λ (n : ℕ). le_number (take 8 ys) + 256 ^ n * le_number (drop 8 ys)) (length-take-le 8 ys (omega (arith, long)))) in
    let number : first + last * 2 ^ 64 ≡ le_number ys = omega (arith, low, high, both) in
    let at : length bytes - length bytes % 16 ≡ 16 * (length bytes / 16) = omega arith in
    ap (λ (n : ℕ). (n / 256 + 255 * 2 ^ 120) / 2 ^ s) number
    ∙ (last_is 15 (length bytes % 16) s 255 bytes le (omega arith) small (omega arith)
    ∙ ap (λ (n : ℕ). le_number (drop n bytes ++ 255 ∷ [])) at)

-- ---- the hash

-- of bytes, and then fewer than a block more: from the bytes after the last whole block
from_end : (bytes more : List ℕ) (seed : ℕ) → let n = length bytes / 16 in let end = drop (16 * n) bytes ++ more in
    finalization (body (length end / 16) (body n (seed, seed) bytes) end) (padded (drop (16 * (length end / 16)) end)) ((length bytes + length more) % 2 ^ 64) ≡ murmur3_x64_128 (bytes ++ more) seed
unfolding murmur3_x64_128
from_end bytes more seed =
    let halves = each_more body_is (seed, seed) bytes more in
    let tail = tail_more Sixteen bytes more in
    let total : (length bytes + length more) % 2 ^ 64 ≡ length (bytes ++ more) % 2 ^ 64 = ap (λ (n : ℕ). n % 2 ^ 64) (sym (length-append bytes more)) in
    λ i. finalization (halves i) (padded (tail i)) (total i)

end_fills : (end : List ℕ) (h : ℕ × ℕ) (len : ℕ) → length end ≡ 16 → AreBytes end
    → finish_words (block_of_words h (le_number end % 2 ^ 64) (le_number end / 2 ^ 64)) 0 0 len ≡ finalization (body (length end / 16) h end) (padded (drop (16 * (length end / 16)) end)) len
unfolding block finalization
end_fills end h len l small =
    let one : length end / 16 ≡ 1 = omega (arith, l) in
    let none : drop (16 * 1) end ≡ [] = drop_all 16 end (omega (arith, l)) in
    let all : take 16 end ≡ end = take_all 16 end (omega (arith, l)) in
    let low : le_number end % 2 ^ 64 ≡ word_at end 0 = sym (low_word end (omega (arith, l)) small) in
    let high : le_number end / 2 ^ 64 ≡ word_at end 8 = sym (high_word end l small) in
    rw (one, none, body_is.more 0 h end, body_is.none, all, low, high) refl

end_left : (end : List ℕ) (h : ℕ × ℕ) (len : ℕ) → length end < 16 → AreBytes end
    → finish_words h (le_number end % 2 ^ 64) (le_number end / 2 ^ 64) len ≡ finalization (body (length end / 16) h end) (padded (drop (16 * (length end / 16)) end)) len
unfolding finalization
end_left end h len lt small =
    let zero_blocks : length end / 16 ≡ 0 = omega arith in
    let long : length (padded end) ≡ 16 = omega (arith, length-append end (replicate (16 - length end) 0), length-replicate {A = ℕ} (16 - length end) 0) in
    let same : le_number (padded end) ≡ le_number end = number-zeros end (16 - length end) in
    let are : AreBytes (padded end) = are-filled end (16 - length end) small in
    let low : le_number end % 2 ^ 64 ≡ word_at (padded end) 0 = sym (low_word (padded end) (omega (arith, long)) are ∙ ap (λ (n : ℕ). n % 2 ^ 64) same) in
    let high : le_number end / 2 ^ 64 ≡ word_at (padded end) 8 = sym (high_word (padded end) long are ∙ ap (λ (n : ℕ). n / 2 ^ 64) same) in
    rw (zero_blocks, body_is.none, low, high) refl

-- how many bytes the end has
length-end : (bytes : List ℕ) → length (drop (16 * (length bytes / 16)) bytes ++ 255 ∷ []) ≡ length bytes % 16 + 1
length-end bytes = omega (arith, length-append (drop (16 * (length bytes / 16)) bytes) (255 ∷ []), length-drop (16 * (length bytes / 16)) bytes)

-- if the byte 255 completes a block
pub hash_filled : (bytes fed : List ℕ) (seed end : ℕ) (h b : ℕ × ℕ) → fed ≡ bytes → AreBytes bytes → length fed % 16 ≡ 15 → h ≡ body (length fed / 16) (seed, seed) fed
    → end ≡ le_number (drop (16 * (length fed / 16)) fed ++ 255 ∷ []) → b ≡ block_of_words h (bit_and end (2 ^ 64 - 1)) (end / 2 ^ 64) → finish_words b 0 0 ((length fed + 1) % 2 ^ 64) ≡ murmur3_x64_128 (bytes ++ 255 ∷ []) seed
hash_filled bytes fed seed end h b same small full eh ee eb =
    let n : ℕ = length fed / 16 in
    let last : List ℕ = drop (16 * n) fed ++ 255 ∷ [] in
    let small_fed : AreBytes fed = subst AreBytes (sym same) small in
    let words : b ≡ block_of_words (body n (seed, seed) fed) (le_number last % 2 ^ 64) (le_number last / 2 ^ 64) = eb ∙ (λ i. block_of_words (eh i) ((and_mask end 64 ∙ ap (λ (m : ℕ). m % 2 ^ 64) ee) i) (ee i / 2 ^ 64)) in
    ap (λ (x : ℕ × ℕ). finish_words x 0 0 ((length fed + 1) % 2 ^ 64)) words
    ∙ (end_fills last (body n (seed, seed) fed) ((length fed + 1) % 2 ^ 64) (length-end fed ∙ omega (arith, full)) (are-more (drop (16 * n) fed) 255 (are-drop (16 * n) fed small_fed) (omega arith))
    ∙ (from_end fed (255 ∷ []) seed ∙ ap (λ (bs : List ℕ). murmur3_x64_128 (bs ++ 255 ∷ []) seed) same))

-- and if it does not
pub hash_left : (bytes fed : List ℕ) (seed end : ℕ) (h : ℕ × ℕ) → fed ≡ bytes → AreBytes bytes → length fed % 16 < 15 → h ≡ body (length fed / 16) (seed, seed) fed
    → end ≡ le_number (drop (16 * (length fed / 16)) fed ++ 255 ∷ []) → finish_words h (bit_and end (2 ^ 64 - 1)) (end / 2 ^ 64) ((length fed + 1) % 2 ^ 64) ≡ murmur3_x64_128 (bytes ++ 255 ∷ []) seed
hash_left bytes fed seed end h same small left eh ee =
    let n : ℕ = length fed / 16 in
    let last : List ℕ = drop (16 * n) fed ++ 255 ∷ [] in
    let small_fed : AreBytes fed = subst AreBytes (sym same) small in
    (λ i. finish_words (eh i) ((and_mask end 64 ∙ ap (λ (m : ℕ). m % 2 ^ 64) ee) i) (ee i / 2 ^ 64) ((length fed + 1) % 2 ^ 64))
    ∙ (end_left last (body n (seed, seed) fed) ((length fed + 1) % 2 ^ 64) (omega (arith, length-end fed)) (are-more (drop (16 * n) fed) 255 (are-drop (16 * n) fed small_fed) (omega arith))
    ∙ (from_end fed (255 ∷ []) seed ∙ ap (λ (bs : List ℕ). murmur3_x64_128 (bs ++ 255 ∷ []) seed) same))

-- ---- bytes alone

-- the bytes after the last block, from their number with the byte 255
pub rest_is : (bytes : List ℕ) (s end : ℕ) → s ≡ 8 * (length bytes % 16) → end ≡ le_number (drop (16 * (length bytes / 16)) bytes ++ 255 ∷ [])
    → end ≡ le_number (drop (16 * (length bytes / 16)) bytes) + 255 * 2 ^ s
rest_is bytes s end es ee =
    let rest : List ℕ = drop (16 * (length bytes / 16)) bytes in
    let long : length rest ≡ length bytes % 16 = length-drop (16 * (length bytes / 16)) bytes ∙ omega arith in
    let scale : 256 ^ length rest ≡ 2 ^ s = ap (λ (n : ℕ). 256 ^ n) long ∙ (pow256 (length bytes % 16) ∙ ap (λ (n : ℕ). 2 ^ n) (sym es)) in
    ee ∙ (number-append rest (255 ∷ []) ∙ (ap (λ (p : ℕ). le_number rest + p * (255 + 256 * 0)) scale ∙ omega arith))

pub hash_rest : (bytes : List ℕ) (seed rest len : ℕ) (h : ℕ × ℕ) → AreBytes bytes → h ≡ body (length bytes / 16) (seed, seed) bytes
    → rest ≡ le_number (drop (16 * (length bytes / 16)) bytes) → len ≡ length bytes % 2 ^ 64 → finish_words h (bit_and rest (2 ^ 64 - 1)) (rest / 2 ^ 64) len ≡ murmur3_x64_128 bytes seed
unfolding murmur3_x64_128 finalization
hash_rest bytes seed rest len h small eh er el =
    let n : ℕ = length bytes / 16 in
    let last : List ℕ = drop (16 * n) bytes in
    let few : length last < 16 = omega (arith, length-drop (16 * n) bytes) in
    let long : length (padded last) ≡ 16 = omega (arith, length-append last (replicate (16 - length last) 0), length-replicate {A = ℕ} (16 - length last) 0) in
    let same : le_number (padded last) ≡ le_number last = number-zeros last (16 - length last) in
    let are : AreBytes (padded last) = are-filled last (16 - length last) (are-drop (16 * n) bytes small) in
    let low : bit_and rest (2 ^ 64 - 1) ≡ word_at (padded last) 0 = and_mask rest 64 ∙ (ap (λ (m : ℕ). m % 2 ^ 64) (er ∙ sym same) ∙ sym (low_word (padded last) (omega (arith, long)) are)) in
    let high : rest / 2 ^ 64 ≡ word_at (padded last) 8 = ap (λ (m : ℕ). m / 2 ^ 64) (er ∙ sym same) ∙ sym (high_word (padded last) long are) in
    λ i. finish_words (eh i) (low i) (high i) (el i)
