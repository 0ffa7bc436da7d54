-- What a loop over many items has written so far. No clause cites this module: the
-- proofs of crates with such loops use it.
use Rattle.std.proofs.Common.{◌≡◌, ℕ, ◌+◌, ◌<◌, ◌≤◌, [], ◌∷◌, ◌++◌, List, length, map, take, get_or, set, sym, ap, ◌∙◌}
use Rattle.std.proofs.lemmas.List.{map-append, take_more, take_more_set, take_all}

-- one more result is written
pub written_more : {A B : Type 0} (f : A → B) (xs : List A) (ys : List B) (i : ℕ) (d : A) → i < length xs → i < length ys
    → take i ys ≡ map f (take i xs) → take (i + 1) (set ys i (f (get_or xs i d))) ≡ map f (take (i + 1) xs)
written_more f xs ys i d x y e =
    take_more_set ys i (f (get_or xs i d)) y
    ∙ ap (λ zs. zs ++ f (get_or xs i d) ∷ []) e
    ∙ sym (ap (map f) (take_more xs i d x) ∙ map-append f (take i xs) (get_or xs i d ∷ []))

-- all results are written
pub written_all : {A B : Type 0} (f : A → B) (xs : List A) (ys : List B) (i : ℕ) → length xs ≤ i → length ys ≤ i
    → take i ys ≡ map f (take i xs) → ys ≡ map f xs
written_all f xs ys i x y e = sym (take_all i ys y) ∙ e ∙ ap (map f) (take_all i xs x)
