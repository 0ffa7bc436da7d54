-- The SipHash of a string: its bytes and the byte 255.
use Rattle.std.proofs.Common.{◌-◌, refl, replicate, ◌≡◌, ℕ, suc, ◌+◌, ◌*◌, ◌/◌, ◌%◌, ◌^◌, ◌<◌, ◌≤◌, List, [], ◌∷◌, ◌++◌, length, take, drop, sym, ap, ◌∙◌, arith, length-append, length-drop, fold}
use Rattle.std.proofs.Math.Pow.{pow_mono}
use Rattle.std.proofs.Math.Seq.{take-add}
use Rattle.std.proofs.lemmas.List.{drop-append-le, take-append-le, take-append-drop, drop-drop, drop-take, take-replicate, length-take-le, take_all, drop_all}
use Rattle.std.specs.Int.{w64}
use Rattle.sketch_base.specs.Fields.{le_at}
use Rattle.sketch_base.specs.MachineWords.{le_number, word_at}
use Rattle.sketch_base.specs.SipHash.{State, initialization, compression, finalization, padded, words, sip_hash}
use Rattle.sketch_base.proofs.LittleEndian.{AreBytes, are-drop, are-more, number-below, number-zeros, pow256, u64_is, word_is}
use Rattle.sketch_base.proofs.SipWords.{tail, length-tail, words-append, state_more, last_is_sum, hash_is}

-- with the byte that ends it
abbrev pub ended : List ℕ → List ℕ
ended bytes = bytes ++ 255 ∷ []

-- its end
pub tail_ended : (bytes : List ℕ) → drop (8 * (length bytes / 8)) (ended bytes) ≡ tail bytes ++ 255 ∷ []
tail_ended bytes = drop-append-le (8 * (length bytes / 8)) bytes (255 ∷ []) (omega arith)

-- if it is shorter than a word, its number is below 2^56
pub end_below : (bytes : List ℕ) (end : ℕ) → AreBytes bytes → length bytes % 8 < 7 → end ≡ le_number (tail bytes ++ 255 ∷ []) → end < 2 ^ 56
end_below bytes end small some is =
    let last : List ℕ = tail bytes ++ 255 ∷ [] in
    let long : length last ≡ length bytes % 8 + 1 = omega (arith, length-append (tail bytes) (255 ∷ []), length-tail bytes) in
    let below : le_number last < 256 ^ length last = number-below last (are-more (tail bytes) 255 (are-drop (8 * (length bytes / 8)) bytes small) (omega arith)) in
    let mono : 2 ^ (8 * length last) ≤ 2 ^ 56 = pow_mono {i = 8 * length last} {j = 56} (omega (arith, long)) in
    omega (arith, is, below, pow256 (length last), mono)

-- the byte 255 is in the last word
pub hash_left : (key : ℕ × ℕ) (bytes : List ℕ) (start v all : State) (end size : ℕ) → length bytes % 8 < 7 → start ≡ initialization key → v ≡ fold (compression 1) start (words (length bytes / 8) bytes)
    → end ≡ le_number (tail bytes ++ 255 ∷ []) → size ≡ (length bytes + 1) % 256 * 2 ^ 56 → all ≡ compression 1 v (end + size) → finalization 3 all ≡ sip_hash 1 3 key (ended bytes)
hash_left key bytes start v all end size some es ev ee ez ea =
    let q : ℕ = length bytes / 8 in
    let long : length (ended bytes) ≡ length bytes + 1 = length-append bytes (255 ∷ []) in
    let count : length (ended bytes) / 8 ≡ q = omega (arith, long) in
    let whole : words (length (ended bytes) / 8) (ended bytes) ≡ words q bytes = ap (λ (n : ℕ). words n (ended bytes)) count ∙ words-append q bytes (255 ∷ []) (omega arith) in
    let left : tail (ended bytes) ≡ tail bytes ++ 255 ∷ [] = ap (λ (n : ℕ). drop (8 * n) (ended bytes)) count ∙ tail_ended bytes in
    let last : end + size ≡ le_number (drop (8 * (length (ended bytes) / 8)) (padded (ended bytes))) =
    omega (arith, ee, ez, ap le_number left, ap (λ (n : ℕ). n % 256 * 2 ^ 56) long, last_is_sum (ended bytes)) in
    hash_is key (ended bytes) start v all (end + size) es (ev ∙ ap (fold (compression 1) start) (sym whole)) last ea

-- the byte 255 completes a word
pub hash_filled : (key : ℕ × ℕ) (bytes : List ℕ) (start v more all : State) (end size : ℕ) → length bytes % 8 ≡ 7 → start ≡ initialization key → v ≡ fold (compression 1) start (words (length bytes / 8) bytes)
    → end ≡ le_number (tail bytes ++ 255 ∷ []) → size ≡ (length bytes + 1) % 256 * 2 ^ 56 → more ≡ compression 1 v end → all ≡ compression 1 more size → finalization 3 all ≡ sip_hash 1 3 key (ended bytes)
hash_filled key bytes start v more all end size full es ev ee ez em ea =
    let q : ℕ = length bytes / 8 in
    let long : length (ended bytes) ≡ length bytes + 1 = length-append bytes (255 ∷ []) in
    let count : length (ended bytes) / 8 ≡ suc q = omega (arith, long) in
    let end_long : length (tail bytes ++ 255 ∷ []) ≡ 8 = omega (arith, length-append (tail bytes) (255 ∷ []), length-tail bytes) in
    let word : le_number (take 8 (drop (8 * q) (ended bytes))) ≡ end = ap (λ (bs : List ℕ). le_number (take 8 bs)) (tail_ended bytes) ∙ (ap le_number (take_all 8 (tail bytes ++ 255 ∷ []) (omega (arith, end_long))) ∙ sym ee) in
    let front : fold (compression 1) start (words q (ended bytes)) ≡ v = ap (fold (compression 1) start) (words-append q bytes (255 ∷ []) (omega arith)) ∙ sym ev in
    let state : fold (compression 1) start (words (length (ended bytes) / 8) (ended bytes)) ≡ more =
    ap (λ (n : ℕ). fold (compression 1) start (words n (ended bytes))) count ∙ (state_more start q (ended bytes) ∙ ((λ i. compression 1 (front i) (word i)) ∙ sym em)) in
    let none : tail (ended bytes) ≡ [] = drop_all (8 * (length (ended bytes) / 8)) (ended bytes) (omega (arith, long)) in
    let last : size ≡ le_number (drop (8 * (length (ended bytes) / 8)) (padded (ended bytes))) =
    omega (arith, ez, ap le_number none, ap (λ (n : ℕ). n % 256 * 2 ^ 56) long, last_is_sum (ended bytes)) in
    hash_is key (ended bytes) start more all size es (sym state) last ea

-- ---- few bytes in a buffer of 16, and then zeros

-- the zeros of a word that is not whole
pub begun_zeros : (buffer : List ℕ) (n : ℕ) → length buffer ≡ 16 → n < 8 → drop n buffer ≡ replicate (16 - n) 0 → drop n (take 8 buffer) ≡ replicate (8 - n) 0
begun_zeros buffer n lb lt zeros =
    let whole : 8 ≡ n + (8 - n) = omega arith in
    ap (λ (k : ℕ). drop n (take k buffer)) whole ∙ (drop-take n (8 - n) buffer ∙ (ap (take (8 - n)) zeros ∙ take-replicate (8 - n) (16 - n) 0 (omega arith)))

-- the first eight bytes of the buffer, if it has no more
begun_is : (bytes buffer : List ℕ) (n : ℕ) → length buffer ≡ 16 → n < 8 → bytes ≡ take n buffer → drop n buffer ≡ replicate (16 - n) 0 → le_number (take 8 buffer) ≡ le_number bytes
begun_is bytes buffer n lb lt is zeros =
    let rest : take (8 - n) (drop n buffer) ≡ replicate (8 - n) 0 = ap (take (8 - n)) zeros ∙ take-replicate (8 - n) (16 - n) 0 (omega arith) in
    let whole : 8 ≡ n + (8 - n) = omega arith in
    let parts : take 8 buffer ≡ take n buffer ++ take (8 - n) (drop n buffer) = ap (λ (k : ℕ). take k buffer) whole ∙ take-add n (8 - n) buffer in
    ap le_number (parts ∙ (λ i. sym is i ++ rest i)) ∙ number-zeros bytes (8 - n)

-- fewer than eight: they are in the last word
pub one_word : (key : ℕ × ℕ) (bytes buffer : List ℕ) (n word size : ℕ) → length buffer ≡ 16 → n < 8 → bytes ≡ take n buffer → drop n buffer ≡ replicate (16 - n) 0 → word ≡ le_at w64 (take 8 buffer) 0 → size ≡ n * 2 ^ 56
    → finalization 3 (compression 1 (initialization key) (word + size)) ≡ sip_hash 1 3 key bytes
unfolding words
one_word key bytes buffer n word size lb lt is zeros ew es =
    let long : length bytes ≡ n = ap length is ∙ length-take-le n buffer (omega (arith, lb)) in
    let none : length bytes / 8 ≡ 0 = omega (arith, long) in
    let eight : length (take 8 buffer) ≡ 8 = length-take-le 8 buffer (omega (arith, lb)) in
    let front : le_number (take 8 buffer) ≡ le_number bytes = begun_is bytes buffer n lb lt is zeros in
    let number : word ≡ le_number bytes = ew ∙ (u64_is (take 8 buffer) 0 (omega (arith, eight)) ∙ (ap le_number (take_all 8 (take 8 buffer) (omega (arith, eight))) ∙ front)) in
    let left : le_number (tail bytes) ≡ le_number bytes = ap (λ (k : ℕ). le_number (drop (8 * k) bytes)) none in
    let last : word + size ≡ le_number (drop (8 * (length bytes / 8)) (padded bytes)) = omega (arith, es, number, left, long, last_is_sum bytes) in
    hash_is key bytes (initialization key) (initialization key) _ _ refl (ap (λ (k : ℕ). fold (compression 1) (initialization key) (words k bytes)) (sym none)) last refl

-- eight and more: a whole word, and the last
pub two_words : (key : ℕ × ℕ) (bytes buffer : List ℕ) (n first word size : ℕ) → length buffer ≡ 16 → 8 ≤ n → n < 16 → bytes ≡ take n buffer → drop n buffer ≡ replicate (16 - n) 0 → first ≡ word_at buffer 0 → word ≡ le_at w64 (take 8 (drop 8 buffer)) 0 → size ≡ n * 2 ^ 56
    → finalization 3 (compression 1 (compression 1 (initialization key) first) (word + size)) ≡ sip_hash 1 3 key bytes
unfolding words
two_words key bytes buffer n first word size lb le lt is zeros ef ew es =
    let long : length bytes ≡ n = ap length is ∙ length-take-le n buffer (omega (arith, lb)) in
    let one : length bytes / 8 ≡ 1 = omega (arith, long) in
    let whole : bytes ++ replicate (16 - n) 0 ≡ buffer = (λ i. is i ++ sym zeros i) ∙ take-append-drop n buffer in
    let front : take 8 buffer ≡ take 8 bytes = ap (take 8) (sym whole) ∙ take-append-le 8 bytes (replicate (16 - n) 0) (omega (arith, long)) in
    let behind : drop 8 buffer ≡ drop 8 bytes ++ replicate (16 - n) 0 = ap (drop 8) (sym whole) ∙ drop-append-le 8 bytes (replicate (16 - n) 0) (omega (arith, long)) in
    let eight : length (drop 8 buffer) ≡ 8 = omega (arith, length-drop 8 buffer, lb) in
    let all : take 8 (drop 8 buffer) ≡ drop 8 buffer = take_all 8 (drop 8 buffer) (omega (arith, eight)) in
    let number : word ≡ le_number (drop 8 bytes) = ew ∙ (ap (λ (bs : List ℕ). le_at w64 bs 0) all ∙ (u64_is (drop 8 buffer) 0 (omega (arith, eight)) ∙ (ap le_number (all ∙ behind) ∙ number-zeros (drop 8 bytes) (16 - n)))) in
    let head : first ≡ le_number (take 8 bytes) = ef ∙ (word_is buffer 0 (omega (arith, lb)) ∙ ap le_number front) in
    let state : compression 1 (initialization key) first ≡ fold (compression 1) (initialization key) (words (length bytes / 8) bytes) =
    ap (compression 1 (initialization key)) head ∙ ap (λ (k : ℕ). fold (compression 1) (initialization key) (words k bytes)) (sym one) in
    let left : le_number (tail bytes) ≡ le_number (drop 8 bytes) = ap (λ (k : ℕ). le_number (drop (8 * k) bytes)) one in
    let last : word + size ≡ le_number (drop (8 * (length bytes / 8)) (padded bytes)) = omega (arith, es, number, left, long, last_is_sum bytes) in
    hash_is key bytes (initialization key) _ _ _ refl state last refl

pub ended_zeros : (buffer : List ℕ) (n : ℕ) → length buffer ≡ 16 → 8 ≤ n → drop n buffer ≡ replicate (16 - n) 0 → drop (n - 8) (take 8 (drop 8 buffer)) ≡ replicate (8 - (n - 8)) 0
ended_zeros buffer n lb le zeros =
    ap (drop (n - 8)) (take_all 8 (drop 8 buffer) (omega (arith, lb, length-drop 8 buffer)))
    ∙ (drop-drop (n - 8) 8 buffer ∙ (ap (λ (k : ℕ). drop k buffer) (omega arith) ∙ (zeros ∙ ap (λ (k : ℕ). replicate k 0) (omega arith))))
