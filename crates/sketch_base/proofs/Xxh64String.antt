-- XXH64 of a string: its last bytes and the byte 255 as a number.
use Rattle.std.proofs.Common.{◌≡◌, ℕ, zero, suc, ◌+◌, ◌-◌, ◌*◌, ◌/◌, ◌%◌, ◌^◌, ◌<◌, ◌≤◌, List, [], ◌∷◌, ◌++◌, length, take, drop, fold, nat_lt, true, if◌then◌else◌, bit_and, inl, inr, refl, sym, ap, subst, ◌∙◌, arith, length-append, length-drop}
use Rattle.std.proofs.Math.Nat.{div-div-eq-div-mul, pow-suc}
use Rattle.std.proofs.lemmas.Bool.{cases_lt, lt-ltb, le-leb, lt-leb}
use Rattle.std.proofs.lemmas.List.{drop-drop, drop_all, take_all, drop-append-le, take-append-le}
use Rattle.std.proofs.lemmas.Nat.{and_mask}
use Rattle.std.specs.Hash.{le_bytes}
use Rattle.std.specs.Int.{byte_at, bytes_low_first}
use Rattle.sketch_base.specs.MachineWords.{le_number, word_at}
use Rattle.sketch_base.specs.Xxh64.{Accumulators, stripe, stripes, stripe_of_words, convergence, initial_accumulators, consume_word, consume_half_word, consume_byte, consume_words, consume_bytes, avalanche, finalization, prime64_5, xxh64}
use Rattle.sketch_base.proofs.Blocks.{blocks_more, each_more, tail_more}
use Rattle.sketch_base.proofs.Blocks.Width.{ThirtyTwo}
use Rattle.sketch_base.proofs.LittleEndian.{AreBytes, are-drop, are-more, number-drop, word_is, low_half}
use Rattle.sketch_base.proofs.Xxh64Pieces.{stripes_is}

-- ---- the lowest bytes of a number

pub lowest_none : (h n count : ℕ) → count ≡ 0 → h ≡ fold consume_byte h (le_bytes count n)
unfolding le_bytes
lowest_none h n count e = rw e refl

pub lowest_one : (h n count one : ℕ) → count ≡ 1 → one ≡ consume_byte h (bit_and n 255) → one ≡ fold consume_byte h (le_bytes count n)
unfolding le_bytes
lowest_one h n count one e e1 = rw (e, e1) (ap (consume_byte h) (and_mask n 8))

pub lowest_two : (h n count one two : ℕ) → count ≡ 2 → one ≡ consume_byte h (bit_and n 255) → two ≡ consume_byte one (bit_and (n / 256) 255) → two ≡ fold consume_byte h (le_bytes count n)
unfolding le_bytes
lowest_two h n count one two e e1 e2 = rw (e, e2, e1) (λ i. consume_byte (consume_byte h (and_mask n 8 i)) (and_mask (n / 256) 8 i))

pub lowest_three : (h n count one two three : ℕ) → count ≡ 3 → one ≡ consume_byte h (bit_and n 255) → two ≡ consume_byte one (bit_and (n / 256) 255) → three ≡ consume_byte two (bit_and (n / 65536) 255) → three ≡ fold consume_byte h (le_bytes count n)
unfolding le_bytes
lowest_three h n count one two three e e1 e2 e3 = rw (e, e3, e2, e1) (λ i. consume_byte (consume_byte (consume_byte h (and_mask n 8 i)) (and_mask (n / 256) 8 i)) (and_mask (n / 65536) 8 i))

-- the bytes of a number whose bytes these are
byte_is : (i n : ℕ) → byte_at i n ≡ n / 256 ^ i % 256
byte_is zero n = omega arith
byte_is (suc i) n = refl

bytes_from : (bytes : List ℕ) (i n : ℕ) → AreBytes bytes → le_number bytes ≡ n / 256 ^ i → bytes_low_first i (length bytes) n ≡ bytes
bytes_from [] i n small e = refl
bytes_from (b ∷ bytes) i n small e =
    let low : b < 256 = small 0 in
    let here : byte_at i n ≡ b = byte_is i n ∙ (ap (λ (m : ℕ). m % 256) (sym e) ∙ omega (arith, low)) in
    let next : n / 256 ^ i / 256 ≡ n / 256 ^ suc i = div-div-eq-div-mul n (256 ^ i) 256 ∙ ap (λ (p : ℕ). n / p) (sym (pow-suc 256 i)) in
    let above : le_number bytes ≡ n / 256 ^ suc i = omega (arith, low, e) ∙ next in
    λ j. here j ∷ bytes_from bytes (suc i) n (λ k. small (suc k)) above j

bytes_of_number : (bytes : List ℕ) → AreBytes bytes → le_bytes (length bytes) (le_number bytes) ≡ bytes
unfolding le_bytes
bytes_of_number bytes small = bytes_from bytes 0 (le_number bytes) small (omega arith)

-- ---- the last bytes, fewer than eight

many_last : (h : ℕ) (last : List ℕ) → AreBytes last → 4 ≤ length last
    → fold consume_byte (consume_half_word h (le_number last % 2 ^ 32)) (le_bytes (length last - 4) (le_number last / 2 ^ 32)) ≡ consume_bytes h last
unfolding consume_bytes
many_last h last small le =
    let others : le_bytes (length last - 4) (le_number last / 2 ^ 32) ≡ drop 4 last =
    (λ i. le_bytes (sym (length-drop 4 last) i) (sym (number-drop 4 last small) i)) ∙ bytes_of_number (drop 4 last) (are-drop 4 last small) in
    rw (le-leb 4 (length last) le, others, low_half last le small) refl

few_last : (h : ℕ) (last : List ℕ) → AreBytes last → length last < 4 → fold consume_byte h (le_bytes (length last) (le_number last)) ≡ consume_bytes h last
unfolding consume_bytes
few_last h last small lt = rw (lt-leb 4 (length last) lt, bytes_of_number last small) refl

-- ---- words of the rest

front_word : (front back : List ℕ) (k : ℕ) → k + 8 ≤ length front → word_at front k ≡ word_at (front ++ back) k
front_word front back k le =
    let same : take 8 (drop k (front ++ back)) ≡ take 8 (drop k front) =
    ap (take 8) (drop-append-le k front back (omega arith)) ∙ take-append-le 8 (drop k front) back (omega (arith, length-drop k front)) in
    word_is front k le ∙ (ap le_number (sym same) ∙ sym (word_is (front ++ back) k (omega (arith, length-append front back))))

front_words : (n h : ℕ) (front back : List ℕ) → 8 * n ≤ length front → consume_words n h front ≡ consume_words n h (front ++ back)
unfolding consume_words
front_words zero h front back le = refl
front_words (suc n) h front back le = λ i. consume_word (front_words n h front back (omega arith) i) (front_word front back (8 * n) (omega arith) i)

-- ---- the whole

-- of bytes, and then fewer than a stripe more: from the bytes after the last whole stripe
from_last : (bytes more : List ℕ) (seed : ℕ) → let n = length bytes / 32 in let last = drop (32 * n) bytes ++ more in let m = length last / 32 in
    finalization (((if nat_lt 0 (n + m) then convergence (stripes m (stripes n (initial_accumulators seed) bytes) last) else ((seed + prime64_5) % 2 ^ 64)) + (length bytes + length more) % 2 ^ 64) % 2 ^ 64) (drop (32 * m) last) ≡ xxh64 (bytes ++ more) seed
unfolding xxh64
from_last bytes more seed =
    let acc = each_more stripes_is (initial_accumulators seed) bytes more in
    let last = tail_more ThirtyTwo bytes more in
    let count = blocks_more ThirtyTwo bytes more in
    let total : (length bytes + length more) % 2 ^ 64 ≡ length (bytes ++ more) % 2 ^ 64 = ap (λ (n : ℕ). n % 2 ^ 64) (sym (length-append bytes more)) in
    λ i. finalization (((if nat_lt 0 (count i) then convergence (acc i) else ((seed + prime64_5) % 2 ^ 64)) + total i) % 2 ^ 64) (last i)

-- the bytes after the last whole word, from those after the last whole stripe
last_bytes : (bytes : List ℕ) (q : ℕ) → q ≡ length bytes % 32 / 8 → drop (8 * q) (drop (32 * (length bytes / 32)) bytes ++ 255 ∷ []) ≡ drop (8 * (length bytes / 8)) bytes ++ 255 ∷ []
last_bytes bytes q e =
    let k : ℕ = 32 * (length bytes / 32) in
    drop-append-le (8 * q) (drop k bytes) (255 ∷ []) (omega (arith, length-drop k bytes))
    ∙ ap (λ (bs : List ℕ). bs ++ 255 ∷ []) (drop-drop (8 * q) k bytes ∙ ap (λ (n : ℕ). drop n bytes) (omega arith))

-- if the byte 255 completes a stripe
full_stripe : (bytes : List ℕ) (seed end : ℕ) → AreBytes bytes → length bytes % 32 ≡ 31 → end ≡ le_number (drop (8 * (length bytes / 8)) bytes ++ 255 ∷ [])
    → let n = length bytes / 32 in let rest = drop (32 * n) bytes in
    avalanche ((convergence (stripe_of_words (stripes n (initial_accumulators seed) bytes) (word_at rest 0, word_at rest 8, word_at rest 16, end)) + (length bytes + 1) % 2 ^ 64) % 2 ^ 64) ≡ xxh64 (bytes ++ 255 ∷ []) seed
unfolding stripe finalization consume_words consume_bytes
full_stripe bytes seed end small full ee =
    let n : ℕ = length bytes / 32 in
    let rest : List ℕ = drop (32 * n) bytes in
    let last : List ℕ = rest ++ 255 ∷ [] in
    let acc : Accumulators = stripes n (initial_accumulators seed) bytes in
    let short : length rest ≡ 31 = length-drop (32 * n) bytes ∙ omega (arith, full) in
    let long : length last ≡ 32 = length-append rest (255 ∷ []) ∙ omega (arith, short) in
    let one : length last / 32 ≡ 1 = omega (arith, long) in
    let none : drop (32 * 1) last ≡ [] = drop_all 32 last (omega (arith, long)) in
    let all : take 32 last ≡ last = take_all 32 last (omega (arith, long)) in
    let some : nat_lt 0 (n + 1) ≡ true = lt-ltb 0 (n + 1) (omega arith) in
    let w0 = front_word rest (255 ∷ []) 0 (omega (arith, short)) in
    let w1 = front_word rest (255 ∷ []) 8 (omega (arith, short)) in
    let w2 = front_word rest (255 ∷ []) 16 (omega (arith, short)) in
    let w3 : end ≡ word_at last 24 = ee ∙ (ap le_number (sym (last_bytes bytes 3 (omega (arith, full)))) ∙ (ap le_number (sym (take_all 8 (drop 24 last) (omega (arith, long, length-drop 24 last)))) ∙ sym (word_is last 24 (omega (arith, long))))) in
    let lanes : stripe_of_words acc (word_at rest 0, word_at rest 8, word_at rest 16, end) ≡ stripe acc last = λ i. stripe_of_words acc (w0 i, w1 i, w2 i, w3 i) in
    let goal : avalanche ((convergence (stripe acc last) + (length bytes + 1) % 2 ^ 64) % 2 ^ 64)
    ≡ finalization (((if nat_lt 0 (n + length last / 32) then convergence (stripes (length last / 32) acc last) else ((seed + prime64_5) % 2 ^ 64)) + (length bytes + 1) % 2 ^ 64) % 2 ^ 64) (drop (32 * (length last / 32)) last) =
    rw (one, some, stripes_is.more 0 acc last, stripes_is.none, none, all) refl in
    ap (λ (a : Accumulators). avalanche ((convergence a + (length bytes + 1) % 2 ^ 64) % 2 ^ 64)) lanes ∙ (goal ∙ from_last bytes (255 ∷ []) seed)

-- if it does not
started : (bytes : List ℕ) (seed h : ℕ) → length bytes % 32 < 31
    → let n = length bytes / 32 in h ≡ (if nat_lt 0 n then convergence (stripes n (initial_accumulators seed) bytes) else ((seed + prime64_5) % 2 ^ 64))
    → finalization ((h + (length bytes + 1) % 2 ^ 64) % 2 ^ 64) (drop (32 * n) bytes ++ 255 ∷ []) ≡ xxh64 (bytes ++ 255 ∷ []) seed
started bytes seed h left eh =
    let n : ℕ = length bytes / 32 in
    let last : List ℕ = drop (32 * n) bytes ++ 255 ∷ [] in
    let acc : Accumulators = stripes n (initial_accumulators seed) bytes in
    let short : length last < 32 = omega (arith, length-append (drop (32 * n) bytes) (255 ∷ []), length-drop (32 * n) bytes) in
    let none : length last / 32 ≡ 0 = omega arith in
    let same : n ≡ n + 0 = omega arith in
    let goal : finalization ((h + (length bytes + 1) % 2 ^ 64) % 2 ^ 64) last
    ≡ finalization (((if nat_lt 0 (n + length last / 32) then convergence (stripes (length last / 32) acc last) else ((seed + prime64_5) % 2 ^ 64)) + (length bytes + 1) % 2 ^ 64) % 2 ^ 64) (drop (32 * (length last / 32)) last) =
    rw (none, stripes_is.none, ← same, eh) refl in
    goal ∙ from_last bytes (255 ∷ []) seed

pub word_completed : (rest : List ℕ) (h end : ℕ) → AreBytes rest → length rest % 8 ≡ 7 → end ≡ le_number (drop (8 * (length rest / 8)) (rest ++ 255 ∷ []))
    → avalanche (consume_word (consume_words (length rest / 8) h rest) end) ≡ finalization h (rest ++ 255 ∷ [])
unfolding finalization consume_words consume_bytes
word_completed rest h end small full ee =
    let q : ℕ = length rest / 8 in
    let last : List ℕ = rest ++ 255 ∷ [] in
    let long : length last ≡ length rest + 1 = length-append rest (255 ∷ []) in
    let count : length last / 8 ≡ suc q = omega (arith, long) in
    let none : drop (8 * suc q) last ≡ [] = drop_all (8 * suc q) last (omega (arith, long)) in
    let word : end ≡ word_at last (8 * q) = ee ∙ (ap le_number (sym (take_all 8 (drop (8 * q) last) (omega (arith, long, length-drop (8 * q) last)))) ∙ sym (word_is last (8 * q) (omega (arith, long)))) in
    let goal : avalanche (consume_word (consume_words q h last) (word_at last (8 * q))) ≡ finalization h last = rw (count, none) refl in
    (λ i. avalanche (consume_word (front_words q h rest (255 ∷ []) (omega arith) i) (word i))) ∙ goal

pub bytes_left : (rest last : List ℕ) (h x : ℕ) → length rest % 8 < 7 → last ≡ drop (8 * (length rest / 8)) (rest ++ 255 ∷ []) → x ≡ consume_bytes (consume_words (length rest / 8) h rest) last
    → avalanche x ≡ finalization h (rest ++ 255 ∷ [])
unfolding finalization
bytes_left rest last h x left el ex =
    let q : ℕ = length rest / 8 in
    let count : q ≡ length (rest ++ 255 ∷ []) / 8 = omega (arith, length-append rest (255 ∷ [])) in
    ap avalanche ex
    ∙ ((λ i. avalanche (consume_bytes (front_words q h rest (255 ∷ []) (omega arith) i) (el i)))
    ∙ ap (λ (n : ℕ). avalanche (consume_bytes (consume_words n h (rest ++ 255 ∷ [])) (drop (8 * n) (rest ++ 255 ∷ [])))) count)

-- ---- the three ends of the code

rest_is : (bytes rest : List ℕ) → rest ≡ drop (length bytes / 32 * 32) bytes → rest ≡ drop (32 * (length bytes / 32)) bytes
rest_is bytes rest e = e ∙ ap (λ (n : ℕ). drop n bytes) (omega arith)

pub hash_filled : (bytes fed rest : List ℕ) (seed end w0 w1 w2 x : ℕ) (start acc all : Accumulators) → fed ≡ bytes → AreBytes bytes → rest ≡ drop (length fed / 32 * 32) fed → length fed % 32 ≡ 31
    → end ≡ le_number (drop (8 * (length fed / 8)) fed ++ 255 ∷ []) → start ≡ initial_accumulators seed → acc ≡ stripes (length fed / 32) start fed → w0 ≡ word_at rest 0 → w1 ≡ word_at rest 8 → w2 ≡ word_at rest 16
    → all ≡ stripe_of_words acc (w0, w1, w2, end) → x ≡ convergence all → avalanche ((x + (length fed + 1) % 2 ^ 64) % 2 ^ 64) ≡ xxh64 (bytes ++ 255 ∷ []) seed
hash_filled bytes fed rest seed end w0 w1 w2 x start acc all same small er full ee es ea e0 e1 e2 eall ex =
    let after : rest ≡ drop (32 * (length fed / 32)) fed = rest_is fed rest er in
    let small_fed : AreBytes fed = subst AreBytes (sym same) small in
    let lane0 = e0 ∙ ap (λ (bs : List ℕ). word_at bs 0) after in
    let lane1 = e1 ∙ ap (λ (bs : List ℕ). word_at bs 8) after in
    let lane2 = e2 ∙ ap (λ (bs : List ℕ). word_at bs 16) after in
    let before = ea ∙ ap (λ (a : Accumulators). stripes (length fed / 32) a fed) es in
    let number = ex ∙ (ap convergence eall ∙ (λ i. convergence (stripe_of_words (before i) (lane0 i, lane1 i, lane2 i, end)))) in
    ap (λ (n : ℕ). avalanche ((n + (length fed + 1) % 2 ^ 64) % 2 ^ 64)) number
    ∙ (full_stripe fed seed end small_fed full ee ∙ ap (λ (bs : List ℕ). xxh64 (bs ++ 255 ∷ []) seed) same)

pub hash_word : (bytes fed rest : List ℕ) (seed end c h x : ℕ) → fed ≡ bytes → AreBytes bytes → rest ≡ drop (length fed / 32 * 32) fed → length fed % 32 < 31 → length fed % 8 ≡ 7
    → end ≡ le_number (drop (8 * (length fed / 8)) fed ++ 255 ∷ []) → c ≡ (if nat_lt 0 (length fed / 32) then convergence (stripes (length fed / 32) (initial_accumulators seed) fed) else ((seed + prime64_5) % 2 ^ 64))
    → h ≡ consume_words (length rest / 8) ((c + (length fed + 1) % 2 ^ 64) % 2 ^ 64) rest → x ≡ consume_word h end → avalanche x ≡ xxh64 (bytes ++ 255 ∷ []) seed
hash_word bytes fed rest seed end c h x same small er left full ee ec eh ex =
    let n : ℕ = length fed / 32 in
    let after : rest ≡ drop (32 * n) fed = rest_is fed rest er in
    let many : length rest ≡ length fed - 32 * n = ap length after ∙ length-drop (32 * n) fed in
    let small_rest : AreBytes rest = subst AreBytes (sym after) (are-drop (32 * n) fed (subst AreBytes (sym same) small)) in
    let end_is : end ≡ le_number (drop (8 * (length rest / 8)) (rest ++ 255 ∷ [])) = ee ∙ ap le_number (sym (last_bytes fed (length rest / 8) (omega (arith, many))) ∙ ap (λ (bs : List ℕ). drop (8 * (length rest / 8)) (bs ++ 255 ∷ [])) (sym after)) in
    let start : ℕ = (c + (length fed + 1) % 2 ^ 64) % 2 ^ 64 in
    ap avalanche (ex ∙ ap (λ (n : ℕ). consume_word n end) eh)
    ∙ (word_completed rest start end small_rest (omega (arith, many, full)) end_is
    ∙ (ap (λ (bs : List ℕ). finalization start (bs ++ 255 ∷ [])) after
    ∙ (started fed seed c left ec ∙ ap (λ (bs : List ℕ). xxh64 (bs ++ 255 ∷ []) seed) same)))

by_count : (h x end count : ℕ) (last : List ℕ) → AreBytes last → length last ≡ count → end ≡ le_number last
    → (4 ≤ count → x ≡ fold consume_byte (consume_half_word h (end % 2 ^ 32)) (le_bytes (count - 4) (end / 2 ^ 32))) → (count < 4 → x ≡ fold consume_byte h (le_bytes count end)) → x ≡ consume_bytes h last
by_count h x end count last small el ee many few = elim (cases_lt count 4) [
  | inl lt ↦ few lt ∙ ((λ i. fold consume_byte h (le_bytes (sym el i) (ee i))) ∙ few_last h last small (omega (arith, el)))
  | inr le ↦ many le ∙ ((λ i. fold consume_byte (consume_half_word h (ee i % 2 ^ 32)) (le_bytes (sym el i - 4) (ee i / 2 ^ 32))) ∙ many_last h last small (omega (arith, el)))
]

pub hash_bytes : (bytes fed rest : List ℕ) (seed end c h x : ℕ) → fed ≡ bytes → AreBytes bytes → rest ≡ drop (length fed / 32 * 32) fed → length fed % 8 < 7
    → end ≡ le_number (drop (8 * (length fed / 8)) fed ++ 255 ∷ []) → c ≡ (if nat_lt 0 (length fed / 32) then convergence (stripes (length fed / 32) (initial_accumulators seed) fed) else ((seed + prime64_5) % 2 ^ 64))
    → h ≡ consume_words (length rest / 8) ((c + (length fed + 1) % 2 ^ 64) % 2 ^ 64) rest
    → (4 ≤ length fed % 8 + 1 → x ≡ fold consume_byte (consume_half_word h (end % 2 ^ 32)) (le_bytes (length fed % 8 + 1 - 4) (end / 2 ^ 32))) → (length fed % 8 + 1 < 4 → x ≡ fold consume_byte h (le_bytes (length fed % 8 + 1) end))
    → avalanche x ≡ xxh64 (bytes ++ 255 ∷ []) seed
hash_bytes bytes fed rest seed end c h x same small er few_left ee ec eh many few =
    let n : ℕ = length fed / 32 in
    let k : ℕ = 8 * (length fed / 8) in
    let last : List ℕ = drop k fed ++ 255 ∷ [] in
    let small_fed : AreBytes fed = subst AreBytes (sym same) small in
    let after : rest ≡ drop (32 * n) fed = rest_is fed rest er in
    let size : length rest ≡ length fed - 32 * n = ap length after ∙ length-drop (32 * n) fed in
    let count : length last ≡ length fed % 8 + 1 = omega (arith, length-append (drop k fed) (255 ∷ []), length-drop k fed) in
    let start : ℕ = (c + (length fed + 1) % 2 ^ 64) % 2 ^ 64 in
    let number : x ≡ consume_bytes h last = by_count h x end (length fed % 8 + 1) last (are-more (drop k fed) 255 (are-drop k fed small_fed) (omega arith)) count ee many few in
    let last_is : last ≡ drop (8 * (length rest / 8)) (rest ++ 255 ∷ []) = sym (last_bytes fed (length rest / 8) (omega (arith, size))) ∙ ap (λ (bs : List ℕ). drop (8 * (length rest / 8)) (bs ++ 255 ∷ [])) (sym after) in
    bytes_left rest last start x (omega (arith, size)) last_is (number ∙ ap (λ (n : ℕ). consume_bytes n last) eh)
    ∙ (ap (λ (bs : List ℕ). finalization start (bs ++ 255 ∷ [])) after
    ∙ (started fed seed c (omega arith) ec ∙ ap (λ (bs : List ℕ). xxh64 (bs ++ 255 ∷ []) seed) same))
