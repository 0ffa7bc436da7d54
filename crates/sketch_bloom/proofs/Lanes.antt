-- The steps of the loops over words, of which the first ones are done.
use Rattle.std.proofs.Common.{◌≡◌, ℕ, ◌+◌, ◌<◌, ◌≤◌, List, [], ◌∷◌, map, ◌++◌, length, take, drop, set, get_or, refl, sym, ap, ◌∙◌, ◌*◌, ◌^◌, arith, length-append, length-drop, length-set}
use Rattle.std.specs.List.{sum_by}
use Rattle.std.specs.Int.RustNames.{count_ones}
use Rattle.std.proofs.lemmas.Nat.{ones-le}
use Rattle.std.proofs.lemmas.List.Sums.{sum_by-append, sum_by_more}
use Rattle.std.proofs.lemmas.List.{append_assoc, append-nil, drop-drop, drop_at, take_at, set_at, drop_more, take_more, get_or_at, length-take-le, take_all, drop_all, take-append-drop, drop-take, take-take, take-set}
use Rattle.std.proofs.lemmas.Simd.{length-zip2, put_chunk_is, length-chunk, take_more_put_chunk}
use lib.Lanes.{zip2, chunk, put_chunk}

-- each word of xs with the word of ys at its index, for the first n words
unfoldable pub first_with : (ℕ → ℕ → ℕ) → ℕ → List ℕ → List ℕ → List ℕ
first_with f n xs ys = zip2 f (take n xs) (take n ys) ++ drop n xs

-- an operation on joined lists joins its results
zip2-append : (f : ℕ → ℕ → ℕ) (xs ys us vs : List ℕ) → length xs ≡ length ys → zip2 f (xs ++ us) (ys ++ vs) ≡ zip2 f xs ys ++ zip2 f us vs
zip2-append f [] [] us vs e = refl
zip2-append f [] (y ∷ ys) us vs e = absurd (omega arith)
zip2-append f (x ∷ xs) [] us vs e = absurd (omega arith)
zip2-append f (x ∷ xs) (y ∷ ys) us vs e = ap (λ (zs : List ℕ). f x y ∷ zs) (zip2-append f xs ys us vs (omega arith))

-- the first i + n are the first i and the n after them
take_part : (xs : List ℕ) (i n : ℕ) → take (i + n) xs ≡ take i xs ++ take n (drop i xs)
take_part xs i n =
    let whole : take i (take (i + n) xs) ++ drop i (take (i + n) xs) ≡ take (i + n) xs = take-append-drop i (take (i + n) xs) in
    sym (rw (take-take i (i + n) xs (omega arith), drop-take i n xs) at whole)

-- with no word done
pub first_with_none : (f : ℕ → ℕ → ℕ) (xs ys : List ℕ) → xs ≡ first_with f 0 xs ys
unfolding first_with
first_with_none f xs ys = refl

-- with all words done
pub first_with_all : (f : ℕ → ℕ → ℕ) (n : ℕ) (xs ys : List ℕ) → length xs ≤ n → length ys ≤ n → first_with f n xs ys ≡ zip2 f xs ys
unfolding first_with
first_with_all f n xs ys a b = rw (take_all n xs a, take_all n ys b, drop_all n xs a, append-nil) refl

-- a block of k words more
pub first_with_block : (f : ℕ → ℕ → ℕ) (k i : ℕ) (xs ys : List ℕ) → length ys ≡ length xs → i + k ≤ length xs
    → put_chunk i (first_with f i xs ys) (zip2 f (chunk i k (first_with f i xs ys)) (chunk i k ys)) ≡ first_with f (i + k) xs ys
unfolding first_with
first_with_block f k i xs ys same fits =
    let a : List ℕ = zip2 f (take i xs) (take i ys) in
    let lx : length (take i xs) ≡ i = length-take-le i xs (omega arith) in
    let ly : length (take i ys) ≡ i = length-take-le i ys (omega arith) in
    let la : length a ≡ i = length-zip2 f (take i xs) (take i ys) (lx ∙ sym ly) ∙ lx in
    let back : drop i (a ++ drop i xs) ≡ drop i xs = drop_at a (drop i xs) i la in
    let cx : length (chunk i k xs) ≡ k = length-chunk i k xs fits in
    let cy : length (chunk i k ys) ≡ k = length-chunk i k ys (omega arith) in
    let b : List ℕ = zip2 f (chunk i k xs) (chunk i k ys) in
    let lb : length b ≡ k = length-zip2 f (chunk i k xs) (chunk i k ys) (cx ∙ sym cy) ∙ cx in
    let whole : length (a ++ drop i xs) ≡ length xs = length-append a (drop i xs) ∙ omega (arith, length-drop i xs) in
    ap (λ (d : List ℕ). put_chunk i (a ++ drop i xs) (zip2 f (take k d) (chunk i k ys))) back
    ∙ (put_chunk_is i (a ++ drop i xs) b (omega arith)
    ∙ (ap (λ (n : ℕ). take i (a ++ drop i xs) ++ (b ++ drop n (drop i (a ++ drop i xs)))) lb
    ∙ (ap (λ (d : List ℕ). take i (a ++ drop i xs) ++ (b ++ drop k d)) back
    ∙ (ap (λ (t : List ℕ). t ++ (b ++ drop k (drop i xs))) (take_at a (drop i xs) i la)
    ∙ (sym (append_assoc a b (drop k (drop i xs)))
    ∙ (ap (λ (d : List ℕ). (a ++ b) ++ d) (drop-drop k i xs)
    ∙ ap (λ (z : List ℕ). z ++ drop (i + k) xs)
    (sym (ap (λ (u : List ℕ). zip2 f u (take (i + k) ys)) (take_part xs i k)
    ∙ (ap (λ (u : List ℕ). zip2 f (take i xs ++ chunk i k xs) u) (take_part ys i k)
    ∙ zip2-append f (take i xs) (take i ys) (chunk i k xs) (chunk i k ys) (lx ∙ sym ly))))))))))

-- one word more
pub first_with_word : (f : ℕ → ℕ → ℕ) (i : ℕ) (xs ys : List ℕ) → length ys ≡ length xs → i < length xs
    → set (first_with f i xs ys) i (f (get_or (first_with f i xs ys) i 0) (get_or ys i 0)) ≡ first_with f (i + 1) xs ys
unfolding first_with
first_with_word f i xs ys same fits =
    let a : List ℕ = zip2 f (take i xs) (take i ys) in
    let lx : length (take i xs) ≡ i = length-take-le i xs (omega arith) in
    let ly : length (take i ys) ≡ i = length-take-le i ys (omega arith) in
    let la : length a ≡ i = length-zip2 f (take i xs) (take i ys) (lx ∙ sym ly) ∙ lx in
    let x : ℕ = get_or xs i 0 in
    let y : ℕ = get_or ys i 0 in
    let rest : drop i xs ≡ x ∷ drop (i + 1) xs = drop_more xs i 0 fits in
    ap (λ (d : List ℕ). set (a ++ d) i (f (get_or (a ++ d) i 0) y)) rest
    ∙ (ap (λ (v : ℕ). set (a ++ x ∷ drop (i + 1) xs) i (f v y)) (get_or_at a x (drop (i + 1) xs) 0 i la)
    ∙ (set_at a x (drop (i + 1) xs) (f x y) i la
    ∙ (sym (append_assoc a (f x y ∷ []) (drop (i + 1) xs))
    ∙ ap (λ (z : List ℕ). z ++ drop (i + 1) xs)
    (sym (ap (λ (u : List ℕ). zip2 f u (take (i + 1) ys)) (take_more xs i 0 fits)
    ∙ (ap (λ (u : List ℕ). zip2 f (take i xs ++ x ∷ []) u) (take_more ys i 0 (omega arith))
    ∙ zip2-append f (take i xs) (take i ys) (x ∷ []) (y ∷ []) (lx ∙ sym ly)))))))

-- a change of the second list goes into the operation
pub zip2-map_right : (f : ℕ → ℕ → ℕ) (g : ℕ → ℕ) (xs ys : List ℕ) → zip2 f xs (map g ys) ≡ zip2 (λ x y. f x (g y)) xs ys
zip2-map_right f g [] ys = refl
zip2-map_right f g (x ∷ xs) [] = refl
zip2-map_right f g (x ∷ xs) (y ∷ ys) = ap (λ (zs : List ℕ). f x (g y) ∷ zs) (zip2-map_right f g xs ys)

-- the first n words of xs are combined with those of ys, and so many bits are set in them
pub record Combined (f : ℕ → ℕ → ℕ) (n : ℕ) (xs ys words : List ℕ) (size : ℕ) : Type 0 where
  pub combined : words ≡ first_with f n xs ys
  pub counted : size ≡ sum_by count_ones (take n words)
  pub few : size ≤ 64 * n
  pub fits : (k : ℕ) → get_or xs k 0 < 2 ^ 64

-- no word yet
pub combined_none : (f : ℕ → ℕ → ℕ) (n : ℕ) (xs ys : List ℕ) → n ≡ 0 → ((k : ℕ) → get_or xs k 0 < 2 ^ 64) → Combined f n xs ys xs 0
combined_none f n xs ys e fits = record {
  combined = first_with_none f xs ys ∙ ap (λ k. first_with f k xs ys) (sym e);
  counted = ap (λ k. sum_by count_ones (take k xs)) (sym e);
  few = omega arith;
  fits = fits;
}

-- a block of k words more
pub combined_block : (f : ℕ → ℕ → ℕ) (k i m : ℕ) (xs ys words new : List ℕ) (size ones : ℕ) → m ≡ i + k → length ys ≡ length xs → i + k ≤ length xs → length words ≡ length xs → Combined f i xs ys words size
    → new ≡ put_chunk i words (zip2 f (chunk i k words) (chunk i k ys)) → ones ≡ sum_by count_ones (take k (drop i new)) → ones ≤ 64 * k → Combined f m xs ys new (size + ones)
combined_block f k i m xs ys words new size ones e same fits len before is counts small =
    let c : List ℕ = zip2 f (chunk i k words) (chunk i k ys) in
    let lx : length (chunk i k words) ≡ k = length-chunk i k words (omega arith) in
    let ly : length (chunk i k ys) ≡ k = length-chunk i k ys (omega arith) in
    let lc : length c ≡ k = length-zip2 f (chunk i k words) (chunk i k ys) (lx ∙ sym ly) ∙ lx in
    let front : take (i + k) new ≡ take i words ++ c = ap (take (i + k)) is ∙ take_more_put_chunk i words c (i + k) (omega arith) (omega arith) in
    let li : length (take i words) ≡ i = length-take-le i words (omega arith) in
    let kept : take i new ≡ take i words = sym (take-take i (i + k) new (omega arith)) ∙ (ap (take i) front ∙ take_at (take i words) c i li) in
    let sums : sum_by count_ones (take (i + k) new) ≡ sum_by count_ones (take i new) + sum_by count_ones (take k (drop i new)) = ap (sum_by count_ones) (take_part new i k) ∙ sum_by-append count_ones (take i new) (take k (drop i new)) in
    let old : sum_by count_ones (take i new) ≡ sum_by count_ones (take i words) = ap (sum_by count_ones) kept in
    let was : size ≡ sum_by count_ones (take i words) = before.counted in
    let total : size + ones ≡ sum_by count_ones (take (i + k) new) = omega arith in
    record {
      combined = is ∙ (ap (λ (w : List ℕ). put_chunk i w (zip2 f (chunk i k w) (chunk i k ys))) before.combined ∙ (first_with_block f k i xs ys same fits ∙ ap (λ (n : ℕ). first_with f n xs ys) (sym e)));
      counted = total ∙ ap (λ (n : ℕ). sum_by count_ones (take n new)) (sym e);
      few = omega (arith, before.few);
      fits = before.fits;
    }

-- one word more
pub combined_word : (f : ℕ → ℕ → ℕ) (i : ℕ) (xs ys words : List ℕ) (size x : ℕ) → length ys ≡ length xs → i < length xs → length words ≡ length xs → Combined f i xs ys words size
    → x ≡ f (get_or words i 0) (get_or ys i 0) → get_or (set words i x) i 0 < 2 ^ 64
    → Combined f (i + 1) xs ys (set words i x) (size + count_ones (get_or (set words i x) i 0))
combined_word f i xs ys words size x same fits len before is small =
    let new : List ℕ = set words i x in
    let ln : length new ≡ length words = length-set words i x in
    let ones : count_ones (get_or new i 0) ≤ 64 = ones-le 64 (get_or new i 0) small in
    let kept : take i new ≡ take i words = take-set words i x in
    let sums : sum_by count_ones (take (i + 1) new) ≡ sum_by count_ones (take i new) + count_ones (get_or new i 0) = sum_by_more count_ones new i 0 (omega arith) in
    let old : sum_by count_ones (take i new) ≡ sum_by count_ones (take i words) = ap (sum_by count_ones) kept in
    let was : size ≡ sum_by count_ones (take i words) = before.counted in
    record {
      combined = ap (set words i) is ∙ (ap (λ (w : List ℕ). set w i (f (get_or w i 0) (get_or ys i 0))) before.combined ∙ first_with_word f i xs ys same fits);
      counted = omega arith;
      few = omega (arith, before.few);
      fits = before.fits;
    }

-- all words
pub combined_all : (f : ℕ → ℕ → ℕ) (n : ℕ) (xs ys words : List ℕ) (size : ℕ) → length ys ≡ length xs → length xs ≤ n → Combined f n xs ys words size → words ≡ zip2 f xs ys
combined_all f n xs ys words size same all c = c.combined ∙ first_with_all f n xs ys all (omega arith)

-- and all their bits are counted
pub counted_all : (f : ℕ → ℕ → ℕ) (n : ℕ) (xs ys words : List ℕ) (size : ℕ) → length words ≤ n → Combined f n xs ys words size → size ≡ sum_by count_ones words
counted_all f n xs ys words size all c = c.counted ∙ ap (sum_by count_ones) (take_all n words all)
