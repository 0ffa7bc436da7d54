-- A text has few words and lines, and columns of one length have the same number of valid rows.
use Rattle.std.proofs.Common.{◌≡◌, ◌+◌, ◌==◌, ℕ, ◌≤◌, List, [], ◌∷◌, length, map, Bool, true, false, nat_lt, if◌then◌else◌, Option, Some, None, arith, refl}
use Rattle.std.proofs.lemmas.List.{length-map}
use Rattle.std.proofs.lemmas.List.Splits.{length-slice_split}
use Rattle.std.proofs.lemmas.List.Sums.{count_by-le-length, length-filter}
use Rattle.std.specs.List.{slice_split}
use Rattle.std.specs.Str.Lines.{lines, lines_of_parts}
use Rattle.sketch_base.specs.Split.{separates, words_by}
use Rattle.sketch_base.specs.Validity.{valid}
use Rattle.sketch_base.specs.declared.separator.Separator.{Separator}
use Rattle.any_sketch.specs.ValidRows.{of_valid}

-- a text of n bytes has at most n + 1 words
pub few_words : (separator : Separator) (text : List ℕ) → length (words_by separator text) ≤ length text + 1
few_words separator text =
    omega (
      arith,
      length-filter (λ word. nat_lt 0 (length word)) (slice_split (separates separator) text),
      count_by-le-length (λ word. nat_lt 0 (length word)) (slice_split (separates separator) text),
      length-slice_split (separates separator) text,
      count_by-le-length (separates separator) text,
    )

few_in_last : (empty : Bool) (part : List ℕ) → length (if empty then [] else part ∷ []) ≤ 1
few_in_last true part = omega arith
few_in_last false part = omega arith

few_parts : (parts : List (List ℕ)) → length (lines_of_parts parts) ≤ length parts
few_parts [] = omega arith
few_parts (part ∷ []) = few_in_last (length part == 0) part
few_parts (part ∷ next ∷ more) = omega (arith, few_parts (next ∷ more))

-- a text of n bytes has at most n + 1 lines
pub few_lines : (text : List ℕ) → length (lines text) ≤ length text + 1
few_lines text =
    omega (
      arith,
      few_parts (slice_split (λ byte. byte == 10) text),
      length-slice_split (λ (byte : ℕ). byte == 10) text,
      count_by-le-length (λ (byte : ℕ). byte == 10) text,
    )

length-valid : {A B : Type 0} → (bits : List Bool) (xs : List A) (ys : List B) → length xs ≡ length ys → length (valid bits xs) ≡ length (valid bits ys)
length-valid bits [] [] same = refl
length-valid bits [] (y ∷ ys) same = let none : ⊥ = omega (arith, same) in absurd none
length-valid bits (x ∷ xs) [] same = let none : ⊥ = omega (arith, same) in absurd none
length-valid [] (x ∷ xs) (y ∷ ys) same = refl
length-valid (true ∷ bits) (x ∷ xs) (y ∷ ys) same = omega (arith, length-valid bits xs ys (omega (arith, same)))
length-valid (false ∷ bits) (x ∷ xs) (y ∷ ys) same = length-valid bits xs ys (omega (arith, same))

-- columns of one length have the same number of valid rows
pub length-of_valid : {A B : Type 0} → (validity : Option (List Bool)) (xs : List A) (ys : List B) → length xs ≡ length ys
    → length (of_valid validity xs) ≡ length (of_valid validity ys)
length-of_valid None xs ys same = same
length-of_valid (Some bits) xs ys same = length-valid bits xs ys same

-- as many valid rows as fed ones
pub length_valid_map : {A B : Type 0} → (f : A → B) (bits : List Bool) (xs : List A) → length (valid bits (map f xs)) ≡ length (valid bits xs)
length_valid_map f bits xs = length-valid bits (map f xs) xs (length-map xs f)
