-- Bytes that come piece by piece leave the state of the whole list.
use Rattle.std.proofs.Common.{◌≡◌, ℕ, Bool, true, false, ◌||◌, nat_lt, ◌+◌, ◌-◌, ◌*◌, ◌/◌, ◌%◌, ◌^◌, ◌<◌, ◌≤◌, List, [], ◌++◌, length, take, drop, refl, sym, ap, ◌∙◌, arith, length-append, zero-add}
use Rattle.std.proofs.lemmas.List.{append_assoc, take-append-drop}
use borrow.Rule.Slice.PartMut.{put_mid, post_of}
use Rattle.std.proofs.lemmas.Bool.Decides.{nat_tests}
use Rattle.sketch_base.specs.Xxh64.{Accumulators, stripe, stripes, xxh64}
use Rattle.sketch_base.specs.Xxh64State.{Xxh64State, HasFed, initial, write, finish}
use Rattle.sketch_base.proofs.Blocks.{IsBlocks, none_whole, one_whole, each_filled, tail_filled, blocks_more, each_more, tail_more, length_begun, room_filled, left_after, left_behind, front_is, front_short, filled}
use Rattle.sketch_base.proofs.Blocks.Width.{ThirtyTwo}

-- nothing more
or_false : (b : Bool) → (b || false) ≡ b
or_false true = refl
or_false false = refl

-- at least one stripe
or_long : (b : Bool) (n : ℕ) → 0 < n → (b || nat_lt 0 n) ≡ true
or_long true n h = refl
or_long false n h = grind (arith, nat_tests)

-- stripes before or after
or_more : (b : Bool) (n m k : ℕ) → k ≡ n + m → ((b || nat_lt 0 n) || nat_lt 0 m) ≡ (b || nat_lt 0 k)
or_more true n m k e = refl
or_more false n m k e = grind (arith, nat_tests)

-- a state by its parts
abbrev pub fed : ℕ → Bool → Accumulators → List ℕ → ℕ → Xxh64State
fed s l h t n = record { seed = s; accumulators = h; is_long = l; tail = t; total = n }

-- the stripes are taken in one after another
pub stripes_is : IsBlocks ThirtyTwo stripe stripes
unfolding stripes
stripes_is = record { none = λ h bs. refl; more = λ n h bs. refl }

-- too few bytes for a stripe
pub write_short : (s : Xxh64State) (bs : List ℕ) → length s.tail + length bs < 32 → write s bs ≡ fed s.seed s.is_long s.accumulators (s.tail ++ bs) ((s.total + length bs) % 2 ^ 64)
unfolding write
write_short s bs lt =
    let n : length (s.tail ++ bs) / 32 ≡ 0 = none_whole ThirtyTwo s.tail bs lt in
    rw (n, stripes_is.none s.accumulators (s.tail ++ bs), or_false s.is_long) refl

-- bytes that fill the stripe, and more
pub write_long : (s : Xxh64State) (xs rest : List ℕ) → length s.tail + length xs ≡ 32 → write s (xs ++ rest) ≡ fed s.seed true (stripes (length rest / 32) (stripe s.accumulators (s.tail ++ xs)) rest) (drop (32 * (length rest / 32)) rest) ((s.total + length (xs ++ rest)) % 2 ^ 64)
unfolding write
write_long s xs rest full =
    let n : length (s.tail ++ (xs ++ rest)) / 32 ≡ length rest / 32 + 1 = one_whole ThirtyTwo s.tail xs rest full ∙ omega arith in
    let accumulators = each_filled stripes_is s.accumulators s.tail xs rest full in
    let tail = tail_filled ThirtyTwo s.tail xs rest full in
    let long : (s.is_long || nat_lt 0 (length (s.tail ++ (xs ++ rest)) / 32)) ≡ true = or_long s.is_long (length (s.tail ++ (xs ++ rest)) / 32) (omega (arith, n)) in
    λ i. fed s.seed (long i) (accumulators i) (tail i) ((s.total + length (xs ++ rest)) % 2 ^ 64)

-- one piece and then another leave the same as both at once
pub write_more : (s : Xxh64State) (xs ys : List ℕ) → write (write s xs) ys ≡ write s (xs ++ ys)
unfolding write
write_more s xs ys =
    let count = blocks_more ThirtyTwo (s.tail ++ xs) ys in
    let accumulators = each_more stripes_is s.accumulators (s.tail ++ xs) ys in
    let tail = tail_more ThirtyTwo (s.tail ++ xs) ys in
    let total : ((s.total + length xs) % 2 ^ 64 + length ys) % 2 ^ 64 ≡ (s.total + length (xs ++ ys)) % 2 ^ 64 = omega (arith, length-append xs ys) in
    let long = or_more s.is_long _ _ _ (sym count) in
    (λ i. fed s.seed (long i) (accumulators i) (tail i) (total i))
    ∙ ap (λ (bs : List ℕ). fed s.seed (s.is_long || nat_lt 0 (length bs / 32)) (stripes (length bs / 32) s.accumulators bs) (drop (32 * (length bs / 32)) bs) ((s.total + length (xs ++ ys)) % 2 ^ 64)) (append_assoc s.tail xs ys)

-- the hash is that of all bytes fed
pub finish-HasFed : (seed : ℕ) (fed : List ℕ) (s : Xxh64State) → HasFed seed fed s → finish s ≡ xxh64 fed seed
unfolding write initial finish xxh64
finish-HasFed seed fed s h = ap finish h.state_is ∙ rw zero-add refl

-- ---- the fields of a hasher under its view

-- the state after a short piece
pub view_short : (sd : ℕ) (lg : Bool) (h : Accumulators) (b ys bs : List ℕ) (k t : ℕ) → length b ≡ 32 → ys ≡ bs → t % 32 + length bs < 32
    → fed sd lg h (take ((t + length bs) % 2 ^ 64 % 32) (put_mid (t % 32) k b ys)) ((t + length bs) % 2 ^ 64) ≡ write (fed sd lg h (take (t % 32) b) t) bs
view_short sd lg h b ys bs k t lb same short =
    ap (λ (x : List ℕ). fed sd lg h x ((t + length bs) % 2 ^ 64)) (front_short ThirtyTwo b ys bs k t lb same short)
    ∙ sym (write_short (fed sd lg h (take (t % 32) b) t) bs (omega (arith, length_begun ThirtyTwo b t lb)))

-- the state after a piece that fills the stripe that was begun
pub view_long : (sd : ℕ) (lg : Bool) (h r : Accumulators) (b z xs bs rest ys tail : List ℕ) (k t : ℕ) → length b ≡ 32 → 32 - t % 32 ≤ length bs → k ≡ 32 - t % 32 → xs ≡ take (32 - t % 32) bs → rest ≡ drop (32 - t % 32) bs
    → r ≡ stripes (length rest / 32) (stripe h (put_mid (t % 32) k b xs)) rest → tail ≡ drop (length rest / 32 * 32) rest → ys ≡ tail
    → fed sd true r (take ((t + length bs) % 2 ^ 64 % 32) (ys ++ post_of 0 (length tail) z)) ((t + length bs) % 2 ^ 64) ≡ write (fed sd lg h (take (t % 32) b) t) bs
view_long sd lg h r b z xs bs rest ys tail k t lb enough ek ex er em et ey =
    let whole : xs ++ rest ≡ bs = rw (ex, er) (take-append-drop (32 - t % 32) bs) in
    let full : length (take (t % 32) b) + length xs ≡ 32 = ap (λ (n : ℕ). n + length xs) (length_begun ThirtyTwo b t lb) ∙ room_filled ThirtyTwo xs bs t enough ex in
    let front = front_is ThirtyTwo rest ys tail z ((t + length bs) % 2 ^ 64 % 32) (left_after ThirtyTwo bs rest tail t enough er et) et ey in
    let accumulators : r ≡ stripes (length rest / 32) (stripe h (take (t % 32) b ++ xs)) rest = em ∙ ap (λ (x : List ℕ). stripes (length rest / 32) (stripe h x) rest) (filled ThirtyTwo b xs k t lb ek) in
    (λ i. fed sd true (accumulators i) (front i) ((t + length (sym whole i)) % 2 ^ 64))
    ∙ (sym (write_long (fed sd lg h (take (t % 32) b) t) xs rest full) ∙ ap (write (fed sd lg h (take (t % 32) b) t)) whole)

-- the same, where no stripe was begun
pub view_whole : (sd : ℕ) (lg : Bool) (h r : Accumulators) (z bs ys tail : List ℕ) (t : ℕ) → t % 32 ≡ 0 → 32 ≤ length bs → r ≡ stripes (length bs / 32) h bs → tail ≡ drop (length bs / 32 * 32) bs → ys ≡ tail
    → fed sd true r (take ((t + length bs) % 2 ^ 64 % 32) (ys ++ post_of 0 (length tail) z)) ((t + length bs) % 2 ^ 64) ≡ write (fed sd lg h [] t) bs
unfolding write
view_whole sd lg h r z bs ys tail t none enough em et ey =
    let front = front_is ThirtyTwo bs ys tail z ((t + length bs) % 2 ^ 64 % 32) (left_behind ThirtyTwo bs tail t none et) et ey in
    let long : true ≡ (lg || nat_lt 0 (length bs / 32)) = sym (or_long lg (length bs / 32) (omega arith)) in
    λ i. fed sd (long i) (em i) (front i) ((t + length bs) % 2 ^ 64)

-- the view's tail, where there is none
pub none_begun : (f : Xxh64State) (b : List ℕ) (sd : ℕ) (lg : Bool) (h : Accumulators) (t : ℕ) → fed sd lg h (take (t % 32) b) t ≡ f → length b ≡ 32 → length f.tail ≡ 0 → (t % 32 ≡ 0) × (fed sd lg h [] t ≡ f)
none_begun f b sd lg h t e lb none =
    let zero_used : t % 32 ≡ 0 = sym (length_begun ThirtyTwo b t lb) ∙ (ap (λ (g : Xxh64State). length g.tail) e ∙ none) in
    (zero_used, ap (λ (n : ℕ). fed sd lg h (take n b) t) (sym zero_used) ∙ e)
