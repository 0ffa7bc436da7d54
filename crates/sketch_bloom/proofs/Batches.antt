-- What loops over blocks of items have inserted and written.
use Rattle.std.proofs.Common.{◌≡◌, ℕ, ◌+◌, ◌<◌, ◌≤◌, [], ◌∷◌, ◌++◌, List, length, map, take, drop, get_or, sym, ap, ◌∙◌, arith}
use Rattle.std.specs.List.{fold}
use Rattle.std.proofs.lemmas.List.{append_assoc, append-nil, length-append, length-drop, length-take-le, map-append, take_all, take_more}
use Rattle.std.proofs.lemmas.List.Sums.{fold-append}
use Rattle.std.proofs.lemmas.Simd.{map-map}
use Rattle.std.proofs.lemmas.Slice.{take-put_mid}
use borrow.Rule.Slice.PartMut.{put_mid, same_len_mid}

-- one more is taken in
pub fold_more : {A B : Type 0} (f : B → A → B) (a : B) (xs : List A) (i : ℕ) (d : A) → i < length xs
    → fold f a (take (i + 1) xs) ≡ f (fold f a (take i xs)) (get_or xs i d)
fold_more f a xs i d l = ap (fold f a) (take_more xs i d l) ∙ fold-append f a (take i xs) (get_or xs i d ∷ [])

-- what is written up to an index, and then what is left, is the whole
abbrev pub IsWrittenTo : {B : Type 0} → List B → List B → List B → ℕ → Type 0
IsWrittenTo whole left ys to = (length ys ≡ length whole) × (to ≤ length ys) × (whole ≡ take to ys ++ left)

-- there is room for a block
pub block_fits : {B : Type 0} (whole left next new ys : List B) (from count : ℕ) → length new ≡ count → left ≡ new ++ next
    → IsWrittenTo whole left ys from → from + count ≤ length ys
block_fits whole left next new ys from count sized split before =
    let a : length left ≡ count + length next = ap length split ∙ length-append new next ∙ ap (λ n. n + length next) sized in
    let b : length whole ≡ from + length left =
    ap length before.2 ∙ length-append (take from ys) left ∙ ap (λ n. n + length left) (length-take-le from ys before.1) in
    let same = before.0 in
    omega (arith, a, b, same)

-- a block is written after what was written before it
pub block_written : {B : Type 0} (whole left next new ys : List B) (from count k : ℕ) → k ≡ count → length new ≡ count → left ≡ new ++ next
    → IsWrittenTo whole left ys from → IsWrittenTo whole next (put_mid from k ys new) (from + count)
block_written whole left next new ys from count k size sized split before =
    let fits : from + count ≤ length ys = block_fits whole left next new ys from count sized split before in
    let same : length (put_mid from k ys new) ≡ length ys =
    same_len_mid from k ys new (sized ∙ sym size ∙ sym (length-take-le k (drop from ys) (omega (arith, length-drop from ys)))) in (
      same ∙ before.0,
      omega (arith, same, fits),
      before.2
          ∙ ap (λ zs. take from ys ++ zs) split
          ∙ sym (append_assoc (take from ys) new next)
          ∙ ap (λ zs. zs ++ next) (sym (take-put_mid from k ys new (from + count) (omega (arith, sized)) (omega (arith, sized)))),
    )

-- if nothing is left, all is written
pub all_written : {B : Type 0} (whole left ys : List B) (to : ℕ) → left ≡ [] → IsWrittenTo whole left ys to → ys ≡ whole
all_written whole left ys to none before =
    let is : whole ≡ take to ys = before.2 ∙ ap (λ zs. take to ys ++ zs) none ∙ append-nil (take to ys) in
    let end : length ys ≡ to = before.0 ∙ ap length is ∙ length-take-le to ys before.1 in
    sym (take_all to ys (omega arith)) ∙ sym is

-- what a function returns of items by their images, for the images of a block and those of the rest
pub mapped_block : {A B C : Type 0} (f : A → B) (F : B → C) (items rest : List A) (block : List B) (new : List C)
    → map f items ≡ block ++ map f rest → new ≡ map F block → map (λ x. F (f x)) items ≡ new ++ map (λ x. F (f x)) rest
mapped_block f F items rest block new split is =
    sym (map-map F f items)
    ∙ ap (map F) split
    ∙ map-append F block (map f rest)
    ∙ (λ k. sym is k ++ map-map F f rest k)
