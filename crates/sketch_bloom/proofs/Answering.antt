-- What loops over items have answered of each, in turn.
use Rattle.std.proofs.Common.{◌≡◌, ℕ, suc, ◌+◌, ◌<◌, Bool, [], ◌∷◌, ◌++◌, List, length, map, take, get_or, set, refl, sym, ap, ◌∙◌}
use Rattle.std.specs.List.{fold}
use Rattle.std.proofs.lemmas.List.{take_more, take_more_set}
use Rattle.sketch_bloom.specs.Pairs.{pair_of, contains_pair, with_pair, pairs_contained}
use Rattle.sketch_bloom.specs.State.{FilterState, contains_item, inserted, answers_in_turn}

-- after some pairs, the others are answered of the filter with those
pairs_contained-append : (s : FilterState) (xs ys : List (ℕ × ℕ)) → pairs_contained s (xs ++ ys) ≡ pairs_contained s xs ++ pairs_contained (fold with_pair s xs) ys
pairs_contained-append s [] ys = refl
pairs_contained-append s (x ∷ xs) ys = ap (λ bs. contains_pair s x ∷ bs) (pairs_contained-append (with_pair s x) xs ys)

-- there is an answer for each
pub length-pairs_contained : (s : FilterState) (xs : List (ℕ × ℕ)) → length (pairs_contained s xs) ≡ length xs
length-pairs_contained s [] = refl
length-pairs_contained s (x ∷ xs) = ap suc (length-pairs_contained (with_pair s x) xs)

-- one more is answered
pub contained_more : (s : FilterState) (xs : List (ℕ × ℕ)) (ys : List Bool) (i : ℕ) (d : ℕ × ℕ) (answer : Bool) → i < length xs → i < length ys
    → take i ys ≡ pairs_contained s (take i xs)
    → answer ≡ contains_pair (fold with_pair s (take i xs)) (get_or xs i d)
    → take (i + 1) (set ys i answer) ≡ pairs_contained s (take (i + 1) xs)
contained_more s xs ys i d answer x y before is =
    take_more_set ys i answer y
    ∙ ((λ k. before k ++ is k ∷ [])
    ∙ (sym (pairs_contained-append s (take i xs) (get_or xs i d ∷ []))
    ∙ ap (pairs_contained s) (sym (take_more xs i d x))))

-- what is answered of all pairs, for those of a block and the rest
pub contained_block : (s new : FilterState) (pairs block rest : List (ℕ × ℕ)) (answers : List Bool) → pairs ≡ block ++ rest
    → answers ≡ pairs_contained s block → new ≡ fold with_pair s block → pairs_contained s pairs ≡ answers ++ pairs_contained new rest
contained_block s new pairs block rest answers split is added =
    ap (pairs_contained s) split
    ∙ pairs_contained-append s block rest
    ∙ (λ k. sym is k ++ pairs_contained (sym added k) rest)

-- what a filter answers of items is what it answers of their pairs
pub answers_are : (s : FilterState) (inputs : List (List ℕ)) → pairs_contained s (map (pair_of s.seed) inputs) ≡ answers_in_turn s inputs
answers_are s [] = refl
answers_are s (x ∷ xs) = ap (λ bs. contains_item s x ∷ bs) (answers_are (inserted s x) xs)
