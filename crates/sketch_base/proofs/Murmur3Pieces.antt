-- Bytes that come piece by piece leave the state of the whole list.
use Rattle.std.proofs.Common.{◌≡◌, ℕ, ◌+◌, ◌-◌, ◌*◌, ◌/◌, ◌%◌, ◌^◌, ◌<◌, ◌≤◌, List, [], ◌++◌, length, take, drop, refl, sym, ap, ◌∙◌, arith, replicate, length-append, zero-add}
use Rattle.std.proofs.lemmas.List.{append_assoc, drop_at, drop-replicate, take-append-drop}
use borrow.Rule.Slice.PartMut.{put_mid, post_of}
use Rattle.sketch_base.specs.Murmur3.{block, body, finalization, murmur3_x64_128}
use Rattle.sketch_base.specs.Murmur3State.{Murmur3State, HasFed, initial, write, finish128}
use Rattle.sketch_base.proofs.Blocks.{IsBlocks, none_whole, each_filled, tail_filled, each_more, tail_more, length_begun, left_after, left_behind, front_is, front_short, filled, room_filled}
use Rattle.sketch_base.proofs.Blocks.Width.{Sixteen}
use Rattle.sketch_base.proofs.KeptBytes.{zeros_behind}

-- a state by its parts
abbrev pub fed : ℕ × ℕ → List ℕ → ℕ → Murmur3State
fed h t n = record { halves = h; tail = t; total = n }

-- the blocks are taken in one after another
pub body_is : IsBlocks Sixteen block body
unfolding body
body_is = record { none = λ h bs. refl; more = λ n h bs. refl }

-- too few bytes for a block
pub write_short : (s : Murmur3State) (bs : List ℕ) → length s.tail + length bs < 16 → write s bs ≡ fed s.halves (s.tail ++ bs) ((s.total + length bs) % 2 ^ 64)
unfolding write
write_short s bs lt =
    let n : length (s.tail ++ bs) / 16 ≡ 0 = none_whole Sixteen s.tail bs lt in
    rw (n, body_is.none s.halves (s.tail ++ bs)) refl

-- bytes that fill the block, and more
pub write_long : (s : Murmur3State) (xs rest : List ℕ) → length s.tail + length xs ≡ 16 → write s (xs ++ rest) ≡ fed (body (length rest / 16) (block s.halves (s.tail ++ xs)) rest) (drop (16 * (length rest / 16)) rest) ((s.total + length (xs ++ rest)) % 2 ^ 64)
unfolding write
write_long s xs rest full =
    let halves = each_filled body_is s.halves s.tail xs rest full in
    let tail = tail_filled Sixteen s.tail xs rest full in
    λ i. fed (halves i) (tail i) ((s.total + length (xs ++ rest)) % 2 ^ 64)

-- one piece and then another leave the same as both at once
pub write_more : (s : Murmur3State) (xs ys : List ℕ) → write (write s xs) ys ≡ write s (xs ++ ys)
unfolding write
write_more s xs ys =
    let halves = each_more body_is s.halves (s.tail ++ xs) ys in
    let tail = tail_more Sixteen (s.tail ++ xs) ys in
    let total : ((s.total + length xs) % 2 ^ 64 + length ys) % 2 ^ 64 ≡ (s.total + length (xs ++ ys)) % 2 ^ 64 = omega (arith, length-append xs ys) in
    (λ i. fed (halves i) (tail i) (total i))
    ∙ ap (λ (bs : List ℕ). fed (body (length bs / 16) s.halves bs) (drop (16 * (length bs / 16)) bs) ((s.total + length (xs ++ ys)) % 2 ^ 64)) (append_assoc s.tail xs ys)

-- the hash is that of all bytes fed
pub finish128-HasFed : (seed : ℕ) (fed : List ℕ) (s : Murmur3State) → HasFed seed fed s → finish128 s ≡ murmur3_x64_128 fed seed
unfolding write initial finish128 murmur3_x64_128
finish128-HasFed seed fed s h = ap finish128 h.state_is ∙ rw zero-add refl

-- ---- the fields of a hasher under its view

-- the hash, from the whole buffer
pub finish128-buffer : (h : ℕ × ℕ) (b : List ℕ) (t : ℕ) → length b ≡ 16 → drop (t % 16) b ≡ replicate (16 - t % 16) 0 → finalization h b t ≡ finish128 (fed h (take (t % 16) b) t)
unfolding finish128
finish128-buffer h b t lb zeros =
    let lt : length (take (t % 16) b) ≡ t % 16 = length_begun Sixteen b t lb in
    let whole : take (t % 16) b ++ drop (t % 16) b ≡ b = take-append-drop (t % 16) b in
    let filled : b ≡ take (t % 16) b ++ replicate (16 - length (take (t % 16) b)) 0 =
    sym whole ∙ (ap (λ (z : List ℕ). take (t % 16) b ++ z) zeros ∙ ap (λ (n : ℕ). take (t % 16) b ++ replicate (16 - n) 0) (sym lt)) in
    ap (λ (x : List ℕ). finalization h x t) filled

-- the zeros behind a short piece
pub zeros_short : (b ys bs : List ℕ) (k t : ℕ) → length b ≡ 16 → drop (t % 16) b ≡ replicate (16 - t % 16) 0 → ys ≡ bs → k ≡ length bs → t % 16 + length bs < 16
    → drop ((t + length bs) % 2 ^ 64 % 16) (put_mid (t % 16) k b ys) ≡ replicate (16 - (t + length bs) % 2 ^ 64 % 16) 0
zeros_short b ys bs k t lb zeros same ek short =
    let at : (t + length bs) % 2 ^ 64 % 16 ≡ t % 16 + length bs = omega arith in
    rw at (zeros_behind b ys bs (t % 16) k lb zeros same ek short)

-- the state after a short piece
pub view_short : (h : ℕ × ℕ) (b ys bs : List ℕ) (k t : ℕ) → length b ≡ 16 → ys ≡ bs → t % 16 + length bs < 16
    → fed h (take ((t + length bs) % 2 ^ 64 % 16) (put_mid (t % 16) k b ys)) ((t + length bs) % 2 ^ 64) ≡ write (fed h (take (t % 16) b) t) bs
view_short h b ys bs k t lb same short =
    ap (λ (x : List ℕ). fed h x ((t + length bs) % 2 ^ 64)) (front_short Sixteen b ys bs k t lb same short)
    ∙ sym (write_short (fed h (take (t % 16) b) t) bs (omega (arith, length_begun Sixteen b t lb)))

-- zeros follow what was copied to the front
zeros_at : (n : ℕ) (ys tail : List ℕ) → n ≡ length tail → ys ≡ tail → drop n (ys ++ post_of 0 (length tail) (replicate 16 0)) ≡ replicate (16 - n) 0
zeros_at n ys tail e ey = rw e (drop_at ys (post_of 0 (length tail) (replicate 16 0)) (length tail) (ap length ey) ∙ drop-replicate (length tail) 16 0)

-- the bytes after the last whole block, at the front of a buffer of zeros
pub zeros_long : (bs rest ys tail : List ℕ) (t : ℕ) → 16 - t % 16 ≤ length bs → rest ≡ drop (16 - t % 16) bs → tail ≡ drop (length rest / 16 * 16) rest → ys ≡ tail
    → drop ((t + length bs) % 2 ^ 64 % 16) (ys ++ post_of 0 (length tail) (replicate 16 0)) ≡ replicate (16 - (t + length bs) % 2 ^ 64 % 16) 0
zeros_long bs rest ys tail t enough er et ey = zeros_at ((t + length bs) % 2 ^ 64 % 16) ys tail (left_after Sixteen bs rest tail t enough er et) ey

-- the same, where no block was begun
pub zeros_whole : (bs ys tail : List ℕ) (t : ℕ) → t % 16 ≡ 0 → tail ≡ drop (length bs / 16 * 16) bs → ys ≡ tail
    → drop ((t + length bs) % 2 ^ 64 % 16) (ys ++ post_of 0 (length tail) (replicate 16 0)) ≡ replicate (16 - (t + length bs) % 2 ^ 64 % 16) 0
zeros_whole bs ys tail t none et ey = zeros_at ((t + length bs) % 2 ^ 64 % 16) ys tail (left_behind Sixteen bs tail t none et) ey

-- the state after a piece that fills the block that was begun
pub view_long : (h r : ℕ × ℕ) (b xs bs rest ys tail : List ℕ) (k t : ℕ) → length b ≡ 16 → 16 - t % 16 ≤ length bs → k ≡ 16 - t % 16 → xs ≡ take (16 - t % 16) bs → rest ≡ drop (16 - t % 16) bs
    → r ≡ body (length rest / 16) (block h (put_mid (t % 16) k b xs)) rest → tail ≡ drop (length rest / 16 * 16) rest → ys ≡ tail
    → fed r (take ((t + length bs) % 2 ^ 64 % 16) (ys ++ post_of 0 (length tail) (replicate 16 0))) ((t + length bs) % 2 ^ 64) ≡ write (fed h (take (t % 16) b) t) bs
view_long h r b xs bs rest ys tail k t lb enough ek ex er em et ey =
    let whole : xs ++ rest ≡ bs = rw (ex, er) (take-append-drop (16 - t % 16) bs) in
    let full : length (take (t % 16) b) + length xs ≡ 16 = ap (λ (n : ℕ). n + length xs) (length_begun Sixteen b t lb) ∙ room_filled Sixteen xs bs t enough ex in
    let front = front_is Sixteen rest ys tail (replicate 16 0) ((t + length bs) % 2 ^ 64 % 16) (left_after Sixteen bs rest tail t enough er et) et ey in
    let halves : r ≡ body (length rest / 16) (block h (take (t % 16) b ++ xs)) rest = em ∙ ap (λ (x : List ℕ). body (length rest / 16) (block h x) rest) (filled Sixteen b xs k t lb ek) in
    (λ i. fed (halves i) (front i) ((t + length (sym whole i)) % 2 ^ 64))
    ∙ (sym (write_long (fed h (take (t % 16) b) t) xs rest full) ∙ ap (write (fed h (take (t % 16) b) t)) whole)

-- the state after a piece where no block was begun
pub view_whole : (h r : ℕ × ℕ) (bs ys tail : List ℕ) (t : ℕ) → t % 16 ≡ 0 → r ≡ body (length bs / 16) h bs → tail ≡ drop (length bs / 16 * 16) bs → ys ≡ tail
    → fed r (take ((t + length bs) % 2 ^ 64 % 16) (ys ++ post_of 0 (length tail) (replicate 16 0))) ((t + length bs) % 2 ^ 64) ≡ write (fed h [] t) bs
unfolding write
view_whole h r bs ys tail t none em et ey =
    let front = front_is Sixteen bs ys tail (replicate 16 0) ((t + length bs) % 2 ^ 64 % 16) (left_behind Sixteen bs tail t none et) et ey in
    λ i. fed (em i) (front i) ((t + length bs) % 2 ^ 64)

-- the view's tail, where there is none
pub none_begun : (f : Murmur3State) (h : ℕ × ℕ) (b : List ℕ) (t : ℕ) → fed h (take (t % 16) b) t ≡ f → length b ≡ 16 → length f.tail ≡ 0 → (t % 16 ≡ 0) × (fed h [] t ≡ f)
none_begun f h b t e lb none =
    let zero_used : t % 16 ≡ 0 = sym (length_begun Sixteen b t lb) ∙ (ap (λ (g : Murmur3State). length g.tail) e ∙ none) in
    (zero_used, ap (λ (n : ℕ). fed h (take n b) t) (sym zero_used) ∙ e)
