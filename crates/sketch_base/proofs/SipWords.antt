-- The words of SipHash: those of the bytes, and the last.
use Rattle.std.proofs.Common.{◌≡◌, ℕ, zero, suc, ◌+◌, ◌-◌, ◌*◌, ◌/◌, ◌%◌, ◌^◌, ◌<◌, ◌≤◌, List, [], ◌∷◌, ◌++◌, length, take, drop, replicate, fold, refl, sym, ap, ◌∙◌, arith, add-one, length-append, length-drop}
use Rattle.std.proofs.Math.Pow.{pow_mono}
use Rattle.std.proofs.lemmas.List.{append_assoc, drop-drop, take_all, take-append-le, drop-append-le, length-replicate}
use Rattle.std.proofs.lemmas.List.Sums.{fold-append}
use Rattle.std.specs.Int.{w64}
use Rattle.sketch_base.specs.Fields.{le_at}
use Rattle.sketch_base.specs.MachineWords.{le_number}
use Rattle.sketch_base.specs.SipHash.{State, initialization, compression, finalization, padded, words, sip_hash}
use Rattle.sketch_base.proofs.LittleEndian.{AreBytes, are-drop, number-append, number-below, number-zeros, pow256, u64_is}

-- ---- words one after another

-- those of the front alone are read
pub words-append : (n : ℕ) (xs ys : List ℕ) → 8 * n ≤ length xs → words n (xs ++ ys) ≡ words n xs
unfolding words
words-append zero xs ys le = refl
words-append (suc n) xs ys le =
    let fits : 8 ≤ length xs = omega arith in
    let rest : 8 * n ≤ length (drop 8 xs) = omega (arith, length-drop 8 xs) in
    rw (take-append-le 8 xs ys fits, drop-append-le 8 xs ys fits) (ap (λ (ws : List ℕ). le_number (take 8 xs) ∷ ws) (words-append n (drop 8 xs) ys rest))

-- one more
words_more : (n : ℕ) (xs : List ℕ) → words (suc n) xs ≡ words n xs ++ le_number (take 8 (drop (8 * n) xs)) ∷ []
unfolding words
words_more zero xs = refl
words_more (suc n) xs =
    let after : drop (8 * n) (drop 8 xs) ≡ drop (8 * suc n) xs = drop-drop (8 * n) 8 xs ∙ ap (λ (k : ℕ). drop k xs) (omega arith) in
    ap (λ (ws : List ℕ). le_number (take 8 xs) ∷ ws) (words_more n (drop 8 xs) ∙ ap (λ (ys : List ℕ). words n (drop 8 xs) ++ le_number (take 8 ys) ∷ []) after)

-- the state after one more
pub state_more : (start : State) (n : ℕ) (xs : List ℕ) → fold (compression 1) start (words (suc n) xs) ≡ compression 1 (fold (compression 1) start (words n xs)) (le_number (take 8 (drop (8 * n) xs)))
state_more start n xs =
    ap (fold (compression 1) start) (words_more n xs) ∙ fold-append (compression 1) start (words n xs) (le_number (take 8 (drop (8 * n) xs)) ∷ [])

-- before the loop
pub none_read : (start : State) (xs : List ℕ) → start ≡ fold (compression 1) start (words 0 xs)
unfolding words
none_read start xs = refl

-- a step of the loop
pub one_read : (start v next : State) (xs : List ℕ) (n word : ℕ) → 8 * n + 8 ≤ length xs → v ≡ fold (compression 1) start (words n xs) → word ≡ le_at w64 xs (8 * n) → next ≡ compression 1 v word
    → next ≡ fold (compression 1) start (words (n + 1) xs)
one_read start v next xs n word le ev ew en =
    let read : word ≡ le_number (take 8 (drop (8 * n) xs)) = ew ∙ u64_is xs (8 * n) le in
    en ∙ ((λ i. compression 1 (ev i) (read i)) ∙ (sym (state_more start n xs) ∙ ap (λ (k : ℕ). fold (compression 1) start (words k xs)) (sym (add-one n))))

-- ---- the last word

abbrev pub tail : List ℕ → List ℕ
tail bytes = drop (8 * (length bytes / 8)) bytes

pub length-tail : (bytes : List ℕ) → length (tail bytes) ≡ length bytes % 8
length-tail bytes = length-drop (8 * (length bytes / 8)) bytes ∙ omega arith

-- the bytes after the last whole word are below 2^56
pub tail_below : (bytes : List ℕ) → AreBytes bytes → le_number (tail bytes) < 2 ^ 56
tail_below bytes small =
    let below : le_number (tail bytes) < 256 ^ length (tail bytes) = number-below (tail bytes) (are-drop (8 * (length bytes / 8)) bytes small) in
    let mono : 2 ^ (8 * length (tail bytes)) ≤ 2 ^ 56 = pow_mono {i = 8 * length (tail bytes)} {j = 56} (omega (arith, length-tail bytes)) in
    omega (arith, below, pow256 (length (tail bytes)), mono)

-- the byte 255 after them
pub ended_is : (bytes : List ℕ) (end : ℕ) → end ≡ le_number (tail bytes ++ 255 ∷ []) → end ≡ le_number (tail bytes) + 255 * 2 ^ (8 * (length bytes % 8)) % 2 ^ 64
ended_is bytes end e =
    let r : ℕ = length bytes % 8 in
    let power : 256 ^ length (tail bytes) ≡ 2 ^ (8 * r) = ap (λ (n : ℕ). 256 ^ n) (length-tail bytes) ∙ pow256 r in
    let number : le_number (tail bytes ++ 255 ∷ []) ≡ le_number (tail bytes) + 2 ^ (8 * r) * (255 + 256 * 0) = number-append (tail bytes) (255 ∷ []) ∙ ap (λ (p : ℕ). le_number (tail bytes) + p * (255 + 256 * 0)) power in
    let mono : 2 ^ (8 * r) ≤ 2 ^ 56 = pow_mono {i = 8 * r} {j = 56} (omega arith) in
    omega (arith, e, number, mono)

-- the tail of the padded bytes
pub last_is_sum : (bytes : List ℕ) → le_number (drop (8 * (length bytes / 8)) (padded bytes)) ≡ le_number (tail bytes) + length bytes % 256 * 2 ^ 56
unfolding padded
last_is_sum bytes =
    let k : ℕ = 8 * (length bytes / 8) in
    let zeros : List ℕ = replicate (7 - length bytes % 8) 0 in
    let size : ℕ = length bytes % 256 in
    let front : drop k (bytes ++ zeros ++ size ∷ []) ≡ tail bytes ++ zeros ++ size ∷ [] =
    drop-append-le k (bytes ++ zeros) (size ∷ []) (omega (arith, length-append bytes zeros)) ∙ ap (λ (bs : List ℕ). bs ++ size ∷ []) (drop-append-le k bytes zeros (omega arith)) in
    let seven : length (tail bytes ++ zeros) ≡ 7 = omega (arith, length-append (tail bytes) zeros, length-tail bytes, length-replicate {A = ℕ} (7 - length bytes % 8) 0) in
    let sum : le_number (tail bytes ++ zeros ++ size ∷ []) ≡ le_number (tail bytes ++ zeros) + 256 ^ 7 * (size + 256 * 0) = number-append (tail bytes ++ zeros) (size ∷ []) ∙ ap (λ (n : ℕ). le_number (tail bytes ++ zeros) + 256 ^ n * (size + 256 * 0)) seven in
    ap le_number front ∙ omega (arith, sum, number-zeros (tail bytes) (7 - length bytes % 8))

-- ---- the hash

pub hash_is : (key : ℕ × ℕ) (bytes : List ℕ) (start v all : State) (last : ℕ) → start ≡ initialization key → v ≡ fold (compression 1) start (words (length bytes / 8) bytes)
    → last ≡ le_number (drop (8 * (length bytes / 8)) (padded bytes)) → all ≡ compression 1 v last → finalization 3 all ≡ sip_hash 1 3 key bytes
unfolding padded sip_hash
hash_is key bytes start v all last es ev el ea =
    let q : ℕ = length bytes / 8 in
    let zeros : List ℕ = replicate (7 - length bytes % 8) 0 in
    let size : ℕ = length bytes % 256 in
    let fill : List ℕ = bytes ++ zeros ++ size ∷ [] in
    let long : length fill ≡ 8 * suc q = omega (arith, length-append (bytes ++ zeros) (size ∷ []), length-append bytes zeros, length-replicate {A = ℕ} (7 - length bytes % 8) 0) in
    let count : length fill / 8 ≡ suc q = omega (arith, long) in
    let front : words q fill ≡ words q bytes = ap (words q) (append_assoc bytes zeros (size ∷ [])) ∙ words-append q bytes (zeros ++ size ∷ []) (omega arith) in
    let whole : take 8 (drop (8 * q) fill) ≡ drop (8 * q) fill = take_all 8 (drop (8 * q) fill) (omega (arith, long, length-drop (8 * q) fill)) in
    let first : fold (compression 1) (initialization key) (words q fill) ≡ v = ap (fold (compression 1) (initialization key)) front ∙ (ap (λ (s : State). fold (compression 1) s (words q bytes)) (sym es) ∙ sym ev) in
    let rest : le_number (take 8 (drop (8 * q) fill)) ≡ last = ap le_number whole ∙ sym el in
    let state : fold (compression 1) (initialization key) (words (length fill / 8) fill) ≡ all =
    ap (λ (n : ℕ). fold (compression 1) (initialization key) (words n fill)) count ∙ (state_more (initialization key) q fill ∙ ((λ i. compression 1 (first i) (rest i)) ∙ sym ea)) in
    ap (finalization 3) (sym state)
