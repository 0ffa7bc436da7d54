-- Bytes that come piece by piece and are taken in block by block, for blocks of 8, 16 and 32 bytes at once.
use Rattle.std.proofs.Common.{◌≡◌, ℕ, zero, suc, ◌+◌, ◌-◌, ◌*◌, ◌/◌, ◌%◌, ◌^◌, ◌<◌, ◌≤◌, List, [], ◌∷◌, ◌++◌, length, take, drop, refl, sym, ap, ◌∙◌, arith, length-append, length-drop, zero-add, fold}
use Rattle.std.proofs.lemmas.List.{take-append-le, drop-append-le, append_assoc, append-nil, drop-drop, take_at, drop_at, drop_all, length-take-le}
use Rattle.std.specs.List.{concat}
use Rattle.std.proofs.lemmas.Slice.{take-put_mid}
use borrow.Rule.Slice.PartMut.{put_mid, post_of}

-- how many bytes a block has
pub data Width : Type 0 where
  Eight : Width
  Sixteen : Width
  ThirtyTwo : Width

abbrev pub size : Width → ℕ
size Eight = 8
size Sixteen = 16
size ThirtyTwo = 32

-- ---- counts of whole blocks

few_blocks : (w : Width) (l : ℕ) → l < size w → l / size w ≡ 0
few_blocks Eight l lt = omega arith
few_blocks Sixteen l lt = omega arith
few_blocks ThirtyTwo l lt = omega arith

one_block_more : (w : Width) (l : ℕ) → (size w + l) / size w ≡ suc (l / size w)
one_block_more Eight l = omega arith
one_block_more Sixteen l = omega arith
one_block_more ThirtyTwo l = omega arith

pub blocks_fit : (w : Width) (l : ℕ) → size w * (l / size w) ≤ l
blocks_fit Eight l = omega arith
blocks_fit Sixteen l = omega arith
blocks_fit ThirtyTwo l = omega arith

blocks_together : (w : Width) (l k : ℕ) → l / size w + (l - size w * (l / size w) + k) / size w ≡ (l + k) / size w
blocks_together Eight l k = omega arith
blocks_together Sixteen l k = omega arith
blocks_together ThirtyTwo l k = omega arith

-- ---- bytes since the last whole block, by the count of all bytes, which wraps

pub used_below : (w : Width) (t : ℕ) → t % size w < size w
used_below Eight t = omega arith
used_below Sixteen t = omega arith
used_below ThirtyTwo t = omega arith

pub used_short : (w : Width) (t n : ℕ) → t % size w + n < size w → (t + n) % 2 ^ 64 % size w ≡ t % size w + n
used_short Eight t n lt = omega arith
used_short Sixteen t n lt = omega arith
used_short ThirtyTwo t n lt = omega arith

used_after : (w : Width) (t n : ℕ) → size w - t % size w ≤ n → (t + n) % 2 ^ 64 % size w ≡ n - (size w - t % size w) - (n - (size w - t % size w)) / size w * size w
used_after Eight t n le = omega arith
used_after Sixteen t n le = omega arith
used_after ThirtyTwo t n le = omega arith

used_behind : (w : Width) (t n : ℕ) → t % size w ≡ 0 → (t + n) % 2 ^ 64 % size w ≡ n - n / size w * size w
used_behind Eight t n none = omega arith
used_behind Sixteen t n none = omega arith
used_behind ThirtyTwo t n none = omega arith

-- so many bytes of the buffer count
pub length_begun : (w : Width) (b : List ℕ) (t : ℕ) → length b ≡ size w → length (take (t % size w) b) ≡ t % size w
length_begun w b t lb = length-take-le (t % size w) b (omega (arith, used_below w t, lb))

-- a piece that ends a block is as long as the room that is left, or longer
pub enough : (w : Width) (tail b : List ℕ) (u n : ℕ) → tail ≡ take u b → length b ≡ size w → u ≤ size w → size w ≤ length tail + n → size w - u ≤ n
enough w tail b u n e lb lu h =
    let lt : length tail ≡ u = ap length e ∙ length-take-le u b (omega arith) in
    omega arith

-- a piece's first bytes fill that room
pub room_filled : (w : Width) (xs bs : List ℕ) (t : ℕ) → size w - t % size w ≤ length bs → xs ≡ take (size w - t % size w) bs → t % size w + length xs ≡ size w
room_filled w xs bs t le ex =
    let lx : length xs ≡ size w - t % size w = ap length ex ∙ length-take-le (size w - t % size w) bs le in
    omega (arith, used_below w t, lx)

-- how many bytes are left behind the last whole block, after a piece that ends one, and where none was begun
pub left_after : (w : Width) (bs rest tail : List ℕ) (t : ℕ) → size w - t % size w ≤ length bs → rest ≡ drop (size w - t % size w) bs → tail ≡ drop (length rest / size w * size w) rest → (t + length bs) % 2 ^ 64 % size w ≡ length tail
left_after w bs rest tail t le er et =
    let lr : length rest ≡ length bs - (size w - t % size w) = ap length er ∙ length-drop (size w - t % size w) bs in
    let lt : length tail ≡ length rest - length rest / size w * size w = ap length et ∙ length-drop (length rest / size w * size w) rest in
    used_after w t (length bs) le ∙ sym (lt ∙ ap (λ (n : ℕ). n - n / size w * size w) lr)

pub left_behind : (w : Width) (bs tail : List ℕ) (t : ℕ) → t % size w ≡ 0 → tail ≡ drop (length bs / size w * size w) bs → (t + length bs) % 2 ^ 64 % size w ≡ length tail
left_behind w bs tail t none et = used_behind w t (length bs) none ∙ sym (ap length et ∙ length-drop (length bs / size w * size w) bs)

-- they stand at the front of the buffer
pub front_is : (w : Width) (rest ys tail z : List ℕ) (n : ℕ) → n ≡ length tail → tail ≡ drop (length rest / size w * size w) rest → ys ≡ tail → take n (ys ++ post_of 0 (length tail) z) ≡ drop (size w * (length rest / size w)) rest
front_is w rest ys tail z n at et ey =
    rw at (take_at ys (post_of 0 (length tail) z) (length tail) (ap length ey) ∙ (ey ∙ (et ∙ ap (λ (k : ℕ). drop k rest) (omega arith))))

-- the buffer after a short piece
pub front_short : (w : Width) (b ys bs : List ℕ) (k t : ℕ) → length b ≡ size w → ys ≡ bs → t % size w + length bs < size w → take ((t + length bs) % 2 ^ 64 % size w) (put_mid (t % size w) k b ys) ≡ take (t % size w) b ++ bs
front_short w b ys bs k t lb same short =
    let at : (t + length bs) % 2 ^ 64 % size w ≡ t % size w + length bs = used_short w t (length bs) short in
    let placed : take (t % size w + length bs) (put_mid (t % size w) k b ys) ≡ take (t % size w) b ++ ys = take-put_mid (t % size w) k b ys (t % size w + length bs) (omega (arith, ap length same)) (omega arith) in
    rw at (placed ∙ ap (λ (x : List ℕ). take (t % size w) b ++ x) same)

-- the buffer that a piece filled
pub filled : (w : Width) (b xs : List ℕ) (k t : ℕ) → length b ≡ size w → k ≡ size w - t % size w → put_mid (t % size w) k b xs ≡ take (t % size w) b ++ xs
filled w b xs k t lb ek =
    let past : post_of (t % size w) k b ≡ [] = drop_all k (drop (t % size w) b) (omega (arith, length-drop (t % size w) b)) in
    rw (past, append-nil) refl

-- ---- a piece behind bytes that wait for their block

-- too few bytes for a block
pub none_whole : (w : Width) (xs ys : List ℕ) → length xs + length ys < size w → length (xs ++ ys) / size w ≡ 0
none_whole w xs ys lt = few_blocks w (length (xs ++ ys)) (omega (arith, length-append xs ys))

-- bytes that fill the block, and more
pub one_whole : (w : Width) (tail xs rest : List ℕ) → length tail + length xs ≡ size w → length (tail ++ (xs ++ rest)) / size w ≡ suc (length rest / size w)
one_whole w tail xs rest full =
    ap (λ (n : ℕ). n / size w) (length-append tail (xs ++ rest) ∙ omega (arith, length-append xs rest)) ∙ one_block_more w (length rest)

pub tail_filled : (w : Width) (tail xs rest : List ℕ) → length tail + length xs ≡ size w → drop (size w * (length (tail ++ (xs ++ rest)) / size w)) (tail ++ (xs ++ rest)) ≡ drop (size w * (length rest / size w)) rest
tail_filled w tail xs rest full =
    let q : ℕ = length rest / size w in
    let long : length (tail ++ xs) ≡ size w = length-append tail xs ∙ full in
    let past : size w * (length (tail ++ (xs ++ rest)) / size w) ≡ size w + size w * q = ap (λ (n : ℕ). size w * n) (one_whole w tail xs rest full) ∙ omega arith in
    ap (λ (n : ℕ). drop n (tail ++ (xs ++ rest))) past
    ∙ (sym (drop-drop (size w * q) (size w) (tail ++ (xs ++ rest)))
    ∙ ap (drop (size w * q)) (ap (drop (size w)) (sym (append_assoc tail xs rest)) ∙ drop_at (tail ++ xs) rest (size w) long))

-- one piece and then another, as both at once
pub blocks_more : (w : Width) (bs ys : List ℕ) → let n = length bs / size w in n + length (drop (size w * n) bs ++ ys) / size w ≡ length (bs ++ ys) / size w
blocks_more w bs ys =
    let n : ℕ = length bs / size w in
    let left : length (drop (size w * n) bs ++ ys) ≡ length bs - size w * n + length ys = length-append (drop (size w * n) bs) ys ∙ ap (λ (k : ℕ). k + length ys) (length-drop (size w * n) bs) in
    ap (λ (k : ℕ). n + k / size w) left ∙ (blocks_together w (length bs) (length ys) ∙ ap (λ (k : ℕ). k / size w) (sym (length-append bs ys)))

pub tail_more : (w : Width) (bs ys : List ℕ) → let t = drop (size w * (length bs / size w)) bs in drop (size w * (length (t ++ ys) / size w)) (t ++ ys) ≡ drop (size w * (length (bs ++ ys) / size w)) (bs ++ ys)
tail_more w bs ys =
    let n : ℕ = length bs / size w in
    let m : ℕ = length (drop (size w * n) bs ++ ys) / size w in
    let left : drop (size w * n) (bs ++ ys) ≡ drop (size w * n) bs ++ ys = drop-append-le (size w * n) bs ys (blocks_fit w (length bs)) in
    let past : size w * n + size w * m ≡ size w * (length (bs ++ ys) / size w) = omega arith ∙ ap (λ (k : ℕ). size w * k) (blocks_more w bs ys) in
    ap (drop (size w * m)) (sym left) ∙ (drop-drop (size w * m) (size w * n) (bs ++ ys) ∙ ap (λ (k : ℕ). drop k (bs ++ ys)) past)

-- ---- a function that takes in so many blocks, one after another

pub record IsBlocks {A : Type 0} (w : Width) (step : A → List ℕ → A) (each : ℕ → A → List ℕ → A) : Type 0 where
  pub none : (a : A) (bs : List ℕ) → each 0 a bs ≡ a
  pub more : (n : ℕ) (a : A) (bs : List ℕ) → each (suc n) a bs ≡ each n (step a (take (size w) bs)) (drop (size w) bs)

module _ {A : Type 0} {w : Width} {step : A → List ℕ → A} {each : ℕ → A → List ℕ → A} (is : IsBlocks w step each) where
  -- the first n blocks alone are read
  each-append : (n : ℕ) (a : A) (xs ys : List ℕ) → size w * n ≤ length xs → each n a (xs ++ ys) ≡ each n a xs
  each-append zero a xs ys le = is.none a (xs ++ ys) ∙ sym (is.none a xs)
  each-append (suc n) a xs ys le =
      let fits : size w ≤ length xs = omega arith in
      let rest : size w * n ≤ length (drop (size w) xs) = omega (arith, length-drop (size w) xs) in
      is.more n a (xs ++ ys)
      ∙ (rw (take-append-le (size w) xs ys fits, drop-append-le (size w) xs ys fits) (each-append n (step a (take (size w) xs)) (drop (size w) xs) ys rest)
      ∙ sym (is.more n a xs))

  -- n blocks, and then m
  each-add : (n m : ℕ) (a : A) (bs : List ℕ) → each (n + m) a bs ≡ each m (each n a bs) (drop (size w * n) bs)
  each-add zero m a bs =
      let start : size w * 0 ≡ 0 = omega arith in
      rw (start, zero-add, is.none a bs) refl
  each-add (suc n) m a bs =
      let e : suc n + m ≡ suc (n + m) = omega arith in
      let d : drop (size w * n) (drop (size w) bs) ≡ drop (size w * suc n) bs = drop-drop (size w * n) (size w) bs ∙ ap (λ (k : ℕ). drop k bs) (omega arith) in
      rw (e, is.more (n + m) a bs, is.more n a bs, ← d) (each-add n m (step a (take (size w) bs)) (drop (size w) bs))

  -- a step of the loop over blocks, whose block is lent as a part of the bytes
  pub each_step : (c i : ℕ) (a next : A) (bs : List ℕ) → i < c → next ≡ step a (take (size w * i + size w - size w * i) (drop (size w * i) bs)) → each (c - i) a (drop (size w * i) bs) ≡ each (c - (i + 1)) next (drop (size w * (i + 1)) bs)
  each_step c i a next bs lt stepped =
      let e : c - i ≡ suc (c - (i + 1)) = omega arith in
      let long : size w * i + size w - size w * i ≡ size w = omega arith in
      let here : next ≡ step a (take (size w) (drop (size w * i) bs)) = stepped ∙ ap (λ (n : ℕ). step a (take n (drop (size w * i) bs))) long in
      let d : drop (size w) (drop (size w * i) bs) ≡ drop (size w * (i + 1)) bs = drop-drop (size w) (size w * i) bs ∙ ap (λ (k : ℕ). drop k bs) (omega arith) in
      rw (e, is.more (c - (i + 1)) a (drop (size w * i) bs), d, here) refl

  -- and its end
  pub each_done : (c i : ℕ) (a : A) (bs : List ℕ) → c ≤ i → each (c - i) a bs ≡ a
  each_done c i a bs le =
      let over : c - i ≡ 0 = omega arith in
      rw over (is.none a bs)

  -- bytes that fill the block that was begun, and more
  pub each_filled : (a : A) (tail xs rest : List ℕ) → length tail + length xs ≡ size w → each (length (tail ++ (xs ++ rest)) / size w) a (tail ++ (xs ++ rest)) ≡ each (length rest / size w) (step a (tail ++ xs)) rest
  each_filled a tail xs rest full =
      let long : length (tail ++ xs) ≡ size w = length-append tail xs ∙ full in
      rw (one_whole w tail xs rest full, ← append_assoc tail xs rest, is.more (length rest / size w) a ((tail ++ xs) ++ rest), take_at (tail ++ xs) rest (size w) long, drop_at (tail ++ xs) rest (size w) long) refl

  -- one piece and then another leave the same as both at once
  pub each_more : (a : A) (bs ys : List ℕ) → let n = length bs / size w in let t = drop (size w * n) bs in each (length (t ++ ys) / size w) (each n a bs) (t ++ ys) ≡ each (length (bs ++ ys) / size w) a (bs ++ ys)
  each_more a bs ys =
      let n : ℕ = length bs / size w in
      let m : ℕ = length (drop (size w * n) bs ++ ys) / size w in
      let fits : size w * n ≤ length bs = blocks_fit w (length bs) in
      let left : drop (size w * n) (bs ++ ys) ≡ drop (size w * n) bs ++ ys = drop-append-le (size w * n) bs ys fits in
      rw (← blocks_more w bs ys, each-add n m a (bs ++ ys), each-append n a bs ys fits, left) refl

-- what holds after each piece holds after all of them
pub all_pieces : {S : Type 0} (write : S → List ℕ → S) (Fed : List ℕ → S → Type 0) → ((before piece : List ℕ) (s : S) → Fed before s → Fed (before ++ piece) (write s piece))
    → (before : List ℕ) (s : S) (pieces : List (List ℕ)) → Fed before s → Fed (before ++ concat pieces) (fold write s pieces)
all_pieces write Fed one before s [] h = rw append-nil h
all_pieces write Fed one before s (piece ∷ pieces) h = rw (← append_assoc) (all_pieces write Fed one (before ++ piece) (write s piece) pieces (one before piece s h))

-- ---- a function to which one piece and then another are the same as both at once

module _ {S : Type 0} (write : S → List ℕ → S) (write_more : (s : S) (xs ys : List ℕ) → write (write s xs) ys ≡ write s (xs ++ ys)) where
  -- one piece more
  pub fed_more : (start s : S) (before piece : List ℕ) → s ≡ write start before → write s piece ≡ write start (before ++ piece)
  fed_more start s before piece fed = ap (λ (t : S). write t piece) fed ∙ write_more start before piece

  -- all pieces of an item
  pub fed_all : (start s t : S) (pieces : List (List ℕ)) → s ≡ write start [] → t ≡ fold write s pieces → t ≡ write start (concat pieces)
  fed_all start s t pieces none all = all ∙ all_pieces write (λ bytes s. s ≡ write start bytes) (λ before piece s fed. fed_more start s before piece fed) [] s pieces none
