-- The first words of a text, which an array takes.
use Rattle.std.proofs.Common.{◌≡◌, ℕ, suc, ◌+◌, ◌-◌, ◌<◌, ◌≤◌, false, eqb, List, [], ◌∷◌, ◌++◌, length, take, drop, set, append_assoc, refl, sym, ◌∙◌, ap, arith}
use Rattle.std.specs.Borrow.{Bor}
use Rattle.std.proofs.lemmas.Bool.Decides.{nat_tests}
use Rattle.std.proofs.lemmas.List.{drop-drop, drop-set-lt, length-set, take_more_set}
use Rattle.sketch_base.specs.Split.{with_word}
use Rattle.sketch_base.specs.Strings.{strings_at}

-- the array begins with the first of all words, the rest of them is left, and so are the other elements of the array
abbrev pub HasTaken : List (Bor (List ℕ)) → List (List ℕ) → List (Bor (List ℕ)) → ℕ → List (List ℕ) → Type 0
HasTaken before all words count rest =
    (count ≤ length before) × (length words ≡ length before)
    × (take (length before) all ≡ strings_at (take count words) ++ take (length before - count) rest)
    × (drop count words ≡ drop count before)

take_next : (n : ℕ) (word : List ℕ) (words : List (List ℕ)) → 0 < length word → take (suc n) (with_word word words) ≡ word ∷ take n words
take_next n [] words some = absurd (omega arith)
take_next n (x ∷ xs) words some = refl

strings_push : (words : List (Bor (List ℕ))) (word : Bor (List ℕ)) → strings_at (words ++ word ∷ []) ≡ strings_at words ++ word.now ∷ []
strings_push [] word = refl
strings_push (x ∷ xs) word = ap (λ (l : List (List ℕ)). x.now ∷ l) (strings_push xs word)

-- one more word
pub takes_one : (before : List (Bor (List ℕ))) (all rest after : List (List ℕ)) (words : List (Bor (List ℕ))) (word : Bor (List ℕ)) (count : ℕ) → HasTaken before all words count rest → count < length before → eqb (length word.now) 0 ≡ false → rest ≡ with_word word.now after
    → HasTaken before all (set words count word) (count + 1) after
takes_one before all rest after words word count (le, long, told, kept) less some next =
    let most : ℕ = length before in
    let some' : 0 < length word.now = grind (arith, nat_tests) in
    let left : most - count ≡ suc (most - (count + 1)) = omega arith in
    let more : take (most - count) rest ≡ word.now ∷ take (most - (count + 1)) after = ap (λ (k : ℕ). take k rest) left ∙ ap (take (suc (most - (count + 1)))) next ∙ take_next _ word.now after some' in (
      omega arith,
      length-set words count word ∙ long,
      told ∙ ap (λ (l : List (List ℕ)). strings_at (take count words) ++ l) more ∙ sym (append_assoc (strings_at (take count words)) (word.now ∷ []) (take (most - (count + 1)) after))
          ∙ ap (λ (l : List (List ℕ)). l ++ take (most - (count + 1)) after) (sym (strings_push (take count words) word) ∙ ap strings_at (sym (take_more_set words count word (omega arith)))),
      drop-set-lt (count + 1) words count word (omega arith) ∙ sym (drop-drop 1 count words) ∙ ap (drop 1) kept ∙ drop-drop 1 count before,
    )
