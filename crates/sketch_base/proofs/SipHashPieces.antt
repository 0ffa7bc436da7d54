-- Bytes that come piece by piece leave the state of SipHash of the whole list.
use Rattle.std.proofs.Common.{◌≡◌, ℕ, ◌+◌, ◌-◌, ◌*◌, ◌/◌, ◌%◌, ◌^◌, ◌<◌, ◌≤◌, List, [], ◌∷◌, ◌++◌, length, take, drop, refl, sym, ap, ◌∙◌, arith, replicate, length-append, fold}
use Rattle.std.proofs.Math.Pow.{pow_mono}
use Rattle.std.proofs.lemmas.List.{append_assoc, drop_at, drop-replicate, take-append-drop, take_all, length-replicate, length-take-le}
use borrow.Rule.Slice.PartMut.{put_mid, post_of}
use Rattle.sketch_base.specs.MachineWords.{le_number}
use Rattle.sketch_base.specs.SipHash.{State, compression, finalization, initialization, padded, words, sip_hash_1_3}
use Rattle.sketch_base.specs.SipHashState.{SipHashState, HasFed, initial, write, finish}
use Rattle.sketch_base.proofs.Blocks.{IsBlocks, none_whole, each_filled, tail_filled, each_more, tail_more, length_begun, left_after, left_behind, front_is, front_short, filled, room_filled}
use Rattle.sketch_base.proofs.Blocks.Width.{Eight}
use Rattle.sketch_base.proofs.KeptBytes.{zeros_behind}
use Rattle.sketch_base.proofs.LittleEndian.{AreBytes, are-take, number-append, number-below, number-zeros, pow256, u64_is}
use Rattle.sketch_base.specs.Fields.{le_at}
use Rattle.std.specs.Int.{w64}
use Rattle.sketch_base.proofs.SipWords.{tail, length-tail, last_is_sum, hash_is}

-- a state by its parts
abbrev pub fed : State → List ℕ → ℕ → SipHashState
fed v t n = record { state = v; tail = t; total = n }

-- one word of eight bytes, and n of them
abbrev pub step : State → List ℕ → State
step v bytes = compression 1 v (le_number bytes)

abbrev pub each : ℕ → State → List ℕ → State
each n v bytes = fold (compression 1) v (words n bytes)

pub each_is : IsBlocks Eight step each
unfolding words
each_is = record { none = λ v bs. refl; more = λ n v bs. refl }

-- too few bytes for a word
pub write_short : (s : SipHashState) (bs : List ℕ) → length s.tail + length bs < 8 → write s bs ≡ fed s.state (s.tail ++ bs) ((s.total + length bs) % 2 ^ 64)
unfolding write
write_short s bs lt =
    let n : length (s.tail ++ bs) / 8 ≡ 0 = none_whole Eight s.tail bs lt in
    rw (n, each_is.none s.state (s.tail ++ bs)) refl

-- bytes that complete the word, and more
pub write_long : (s : SipHashState) (xs rest : List ℕ) → length s.tail + length xs ≡ 8 → write s (xs ++ rest) ≡ fed (each (length rest / 8) (step s.state (s.tail ++ xs)) rest) (drop (8 * (length rest / 8)) rest) ((s.total + length (xs ++ rest)) % 2 ^ 64)
unfolding write
write_long s xs rest full =
    let state = each_filled each_is s.state s.tail xs rest full in
    let left = tail_filled Eight s.tail xs rest full in
    λ i. fed (state i) (left i) ((s.total + length (xs ++ rest)) % 2 ^ 64)

-- one piece and then another leave the same as both at once
pub write_more : (s : SipHashState) (xs ys : List ℕ) → write (write s xs) ys ≡ write s (xs ++ ys)
unfolding write
write_more s xs ys =
    let state = each_more each_is s.state (s.tail ++ xs) ys in
    let left = tail_more Eight (s.tail ++ xs) ys in
    let total : ((s.total + length xs) % 2 ^ 64 + length ys) % 2 ^ 64 ≡ (s.total + length (xs ++ ys)) % 2 ^ 64 = omega (arith, length-append xs ys) in
    (λ i. fed (state i) (left i) (total i))
    ∙ ap (λ (bs : List ℕ). fed (each (length bs / 8) s.state bs) (drop (8 * (length bs / 8)) bs) ((s.total + length (xs ++ ys)) % 2 ^ 64)) (append_assoc s.tail xs ys)

-- the number of the bytes since the last whole word, zeros, and the size
pub last_sum : (left : List ℕ) (size : ℕ) → length left < 8 → le_number (left ++ replicate (7 - length left) 0 ++ size ∷ []) ≡ le_number left + size * 2 ^ 56
last_sum left size lt =
    let zeros : List ℕ = replicate (7 - length left) 0 in
    let seven : length (left ++ zeros) ≡ 7 = omega (arith, length-append left zeros, length-replicate {A = ℕ} (7 - length left) 0) in
    let sum : le_number (left ++ zeros ++ size ∷ []) ≡ le_number (left ++ zeros) + 256 ^ 7 * (size + 256 * 0) = number-append (left ++ zeros) (size ∷ []) ∙ ap (λ (n : ℕ). le_number (left ++ zeros) + 256 ^ n * (size + 256 * 0)) seven in
    omega (arith, sum, number-zeros left (7 - length left))

-- the hash is that of all bytes fed
pub finish-HasFed : (key : ℕ × ℕ) (bytes : List ℕ) (s : SipHashState) → HasFed key bytes s → finish s ≡ sip_hash_1_3 key bytes
unfolding write initial finish
finish-HasFed key bytes s h =
    let size : ℕ = (0 + length bytes) % 2 ^ 64 % 256 in
    let short : length (tail bytes) < 8 = omega (arith, length-tail bytes) in
    let last : le_number (tail bytes ++ replicate (7 - length (tail bytes)) 0 ++ size ∷ []) ≡ le_number (drop (8 * (length bytes / 8)) (padded bytes)) =
    last_sum (tail bytes) size short ∙ (omega arith ∙ sym (last_is_sum bytes)) in
    ap finish h.state_is ∙ hash_is key bytes (initialization key) _ _ _ refl refl last refl

-- ---- the fields of a hasher under its view

-- the word of a whole buffer
pub word_is : (v all : State) (b : List ℕ) (word : ℕ) → length b ≡ 8 → all ≡ compression 1 v word → word ≡ le_at w64 b 0 → all ≡ step v b
word_is v all b word lb e is = e ∙ ap (compression 1 v) (is ∙ (u64_is b 0 (omega arith) ∙ ap le_number (take_all 8 b (omega arith))))

-- the bytes of the buffer are those since the last whole word, and zeros
buffer_is : (b : List ℕ) (u : ℕ) → drop u b ≡ replicate (8 - u) 0 → le_number b ≡ le_number (take u b)
buffer_is b u zeros =
    ap le_number (sym (take-append-drop u b) ∙ ap (λ (z : List ℕ). take u b ++ z) zeros) ∙ number-zeros (take u b) (8 - u)

-- the number of the buffer
pub number_is : (b : List ℕ) (t word : ℕ) → length b ≡ 8 → drop (t % 8) b ≡ replicate (8 - t % 8) 0 → word ≡ le_at w64 b 0 → word ≡ le_number (take (t % 8) b)
number_is b t word lb zeros is =
    is ∙ (u64_is b 0 (omega arith) ∙ (ap le_number (take_all 8 b (omega arith)) ∙ buffer_is b (t % 8) zeros))

-- it is below 2^56
pub number_below : (b : List ℕ) (u word : ℕ) → AreBytes b → length b ≡ 8 → u < 8 → drop u b ≡ replicate (8 - u) 0 → word ≡ le_at w64 b 0 → word < 2 ^ 56
number_below b u word small lb lu zeros is =
    let left : List ℕ = take u b in
    let few : length left ≡ u = length-take-le u b (omega (arith, lb)) in
    let number : word ≡ le_number left = is ∙ (u64_is b 0 (omega arith) ∙ (ap le_number (take_all 8 b (omega arith)) ∙ buffer_is b u zeros)) in
    let below : le_number left < 256 ^ length left = number-below left (are-take u b small) in
    let mono : 2 ^ (8 * length left) ≤ 2 ^ 56 = pow_mono {i = 8 * length left} {j = 56} (omega (arith, few)) in
    omega (arith, below, pow256 (length left), mono, number)

-- the hash, from the buffer
pub finish-buffer : (v all : State) (b : List ℕ) (t word last : ℕ) → length b ≡ 8 → drop (t % 8) b ≡ replicate (8 - t % 8) 0 → word ≡ le_at w64 b 0 → last ≡ word + t % 256 * 2 ^ 56
    → all ≡ compression 1 v last → finalization 3 all ≡ finish (fed v (take (t % 8) b) t)
unfolding finish
finish-buffer v all b t word last lb zeros is sum e =
    let left : List ℕ = take (t % 8) b in
    let few : length left ≡ t % 8 = length_begun Eight b t lb in
    let whole : last ≡ le_number (left ++ replicate (7 - length left) 0 ++ t % 256 ∷ []) =
    sum ∙ (ap (λ (n : ℕ). n + t % 256 * 2 ^ 56) (number_is b t word lb zeros is) ∙ sym (last_sum left (t % 256) (omega (arith, few)))) in
    ap (finalization 3) (e ∙ ap (compression 1 v) whole)

-- the zeros behind a short piece
pub zeros_short : (b ys bs : List ℕ) (k t : ℕ) → length b ≡ 8 → drop (t % 8) b ≡ replicate (8 - t % 8) 0 → ys ≡ bs → k ≡ length bs → t % 8 + length bs < 8
    → drop ((t + length bs) % 2 ^ 64 % 8) (put_mid (t % 8) k b ys) ≡ replicate (8 - (t + length bs) % 2 ^ 64 % 8) 0
zeros_short b ys bs k t lb zeros same ek short =
    let at : (t + length bs) % 2 ^ 64 % 8 ≡ t % 8 + length bs = omega arith in
    rw at (zeros_behind b ys bs (t % 8) k lb zeros same ek short)

-- the state after a short piece
pub view_short : (h : State) (b ys bs : List ℕ) (k t : ℕ) → length b ≡ 8 → ys ≡ bs → t % 8 + length bs < 8
    → fed h (take ((t + length bs) % 2 ^ 64 % 8) (put_mid (t % 8) k b ys)) ((t + length bs) % 2 ^ 64) ≡ write (fed h (take (t % 8) b) t) bs
view_short h b ys bs k t lb same short =
    ap (λ (x : List ℕ). fed h x ((t + length bs) % 2 ^ 64)) (front_short Eight b ys bs k t lb same short)
    ∙ sym (write_short (fed h (take (t % 8) b) t) bs (omega (arith, length_begun Eight b t lb)))

-- zeros follow what was copied to the front
zeros_at : (n : ℕ) (ys left : List ℕ) → n ≡ length left → ys ≡ left → drop n (ys ++ post_of 0 (length left) (replicate 8 0)) ≡ replicate (8 - n) 0
zeros_at n ys left e ey = rw e (drop_at ys (post_of 0 (length left) (replicate 8 0)) (length left) (ap length ey) ∙ drop-replicate (length left) 8 0)

-- the bytes after the last whole block, at the front of a buffer of zeros
pub zeros_long : (bs rest ys left : List ℕ) (t : ℕ) → 8 - t % 8 ≤ length bs → rest ≡ drop (8 - t % 8) bs → left ≡ drop (length rest / 8 * 8) rest → ys ≡ left
    → drop ((t + length bs) % 2 ^ 64 % 8) (ys ++ post_of 0 (length left) (replicate 8 0)) ≡ replicate (8 - (t + length bs) % 2 ^ 64 % 8) 0
zeros_long bs rest ys left t enough er et ey = zeros_at ((t + length bs) % 2 ^ 64 % 8) ys left (left_after Eight bs rest left t enough er et) ey

-- the same, where no block was begun
pub zeros_whole : (bs ys left : List ℕ) (t : ℕ) → t % 8 ≡ 0 → left ≡ drop (length bs / 8 * 8) bs → ys ≡ left
    → drop ((t + length bs) % 2 ^ 64 % 8) (ys ++ post_of 0 (length left) (replicate 8 0)) ≡ replicate (8 - (t + length bs) % 2 ^ 64 % 8) 0
zeros_whole bs ys left t none et ey = zeros_at ((t + length bs) % 2 ^ 64 % 8) ys left (left_behind Eight bs left t none et) ey

-- the state after a piece that fills the block that was begun
pub view_long : (h r : State) (b xs bs rest ys left : List ℕ) (k t : ℕ) → length b ≡ 8 → 8 - t % 8 ≤ length bs → k ≡ 8 - t % 8 → xs ≡ take (8 - t % 8) bs → rest ≡ drop (8 - t % 8) bs
    → r ≡ each (length rest / 8) (step h (put_mid (t % 8) k b xs)) rest → left ≡ drop (length rest / 8 * 8) rest → ys ≡ left
    → fed r (take ((t + length bs) % 2 ^ 64 % 8) (ys ++ post_of 0 (length left) (replicate 8 0))) ((t + length bs) % 2 ^ 64) ≡ write (fed h (take (t % 8) b) t) bs
view_long h r b xs bs rest ys left k t lb enough ek ex er em et ey =
    let whole : xs ++ rest ≡ bs = rw (ex, er) (take-append-drop (8 - t % 8) bs) in
    let full : length (take (t % 8) b) + length xs ≡ 8 = ap (λ (n : ℕ). n + length xs) (length_begun Eight b t lb) ∙ room_filled Eight xs bs t enough ex in
    let front = front_is Eight rest ys left (replicate 8 0) ((t + length bs) % 2 ^ 64 % 8) (left_after Eight bs rest left t enough er et) et ey in
    let state : r ≡ each (length rest / 8) (step h (take (t % 8) b ++ xs)) rest = em ∙ ap (λ (x : List ℕ). each (length rest / 8) (step h x) rest) (filled Eight b xs k t lb ek) in
    (λ i. fed (state i) (front i) ((t + length (sym whole i)) % 2 ^ 64))
    ∙ (sym (write_long (fed h (take (t % 8) b) t) xs rest full) ∙ ap (write (fed h (take (t % 8) b) t)) whole)

-- the state after a piece where no block was begun
pub view_whole : (h r : State) (bs ys left : List ℕ) (t : ℕ) → t % 8 ≡ 0 → r ≡ each (length bs / 8) h bs → left ≡ drop (length bs / 8 * 8) bs → ys ≡ left
    → fed r (take ((t + length bs) % 2 ^ 64 % 8) (ys ++ post_of 0 (length left) (replicate 8 0))) ((t + length bs) % 2 ^ 64) ≡ write (fed h [] t) bs
unfolding write
view_whole h r bs ys left t none em et ey =
    let front = front_is Eight bs ys left (replicate 8 0) ((t + length bs) % 2 ^ 64 % 8) (left_behind Eight bs left t none et) et ey in
    λ i. fed (em i) (front i) ((t + length bs) % 2 ^ 64)

-- the view's tail, where there is none
pub none_begun : (f : SipHashState) (h : State) (b : List ℕ) (t : ℕ) → fed h (take (t % 8) b) t ≡ f → length b ≡ 8 → length f.tail ≡ 0 → (t % 8 ≡ 0) × (fed h [] t ≡ f)
none_begun f h b t e lb none =
    let zero_used : t % 8 ≡ 0 = sym (length_begun Eight b t lb) ∙ (ap (λ (g : SipHashState). length g.tail) e ∙ none) in
    (zero_used, ap (λ (n : ℕ). fed h (take n b) t) (sym zero_used) ∙ e)
