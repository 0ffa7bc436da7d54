-- The strings of a buffer or of slices, one by one.
use Rattle.std.proofs.Common.{◌≡◌, ℕ, suc, ◌+◌, ◌-◌, ◌<◌, ◌≤◌, [], ◌∷◌, List, length, drop, get_or, refl, ap, subst, sym, ◌∙◌, arith, length-drop}
use Rattle.std.specs.Borrow.{Bor}
use Rattle.std.specs.List.{All, slice_range, zip}
use Rattle.std.specs.Str.{IsUtf8}
use Rattle.std.proofs.lemmas.List.{length-map, get_or-drop, get_or-map}
use Rattle.std.proofs.lemmas.Slice.Zip.{length-zip, get_or-zip}
use Rattle.sketch_base.specs.Strings.{AreStrings, strings_at, strings_of}

-- there is one string fewer than offsets
pub length-strings_of : (bytes offsets : List ℕ) → length (strings_of bytes offsets) ≡ length offsets - 1
unfolding strings_of
length-strings_of bytes offsets =
    length-map (zip offsets (drop 1 offsets)) (λ (ends : ℕ × ℕ). slice_range bytes ends.0 ends.1)
    ∙ (length-zip offsets (drop 1 offsets) ∙ omega (arith, length-drop 1 offsets))

-- the string at an index
pub get_or-strings_of : (bytes offsets : List ℕ) (i : ℕ) → i + 1 < length offsets
    → get_or (strings_of bytes offsets) i [] ≡ slice_range bytes (get_or offsets i 0) (get_or offsets (i + 1) 0)
unfolding strings_of
get_or-strings_of bytes offsets i there =
    let string : ℕ × ℕ → List ℕ = λ ends. slice_range bytes ends.0 ends.1 in
    let first : i < length offsets = omega arith in
    let second : i < length (drop 1 offsets) = omega (arith, length-drop 1 offsets) in
    let within : i < length (zip offsets (drop 1 offsets)) = omega (arith, length-zip offsets (drop 1 offsets)) in
    let behind : 1 + i ≡ i + 1 = omega arith in
    get_or-map string (zip offsets (drop 1 offsets)) i (0, 0) [] within
    ∙ (ap string (get_or-zip offsets (drop 1 offsets) i (0, 0) first second)
    ∙ ap (λ (end : ℕ). slice_range bytes (get_or offsets i 0) end) (get_or-drop 1 offsets i 0 ∙ ap (λ (n : ℕ). get_or offsets n 0) behind))

-- there are as many strings as slices
pub length-strings_at : (items : List (Bor (List ℕ))) → length (strings_at items) ≡ length items
length-strings_at items = length-map items (λ (item : Bor (List ℕ)). item.now)

-- the string of a slice
pub get_or-strings_at : (items : List (Bor (List ℕ))) (i : ℕ) (none : Bor (List ℕ)) → i < length items
    → get_or (strings_at items) i [] ≡ (get_or items i none).now
get_or-strings_at items i none there = get_or-map (λ (item : Bor (List ℕ)). item.now) items i none [] there

-- what holds of all holds of those after the first
pub all_after : {A : Type 0} (P : A → Type 0) (xs rest : List A) (x : A) → xs ≡ x ∷ rest → All P xs → All P rest
all_after P xs rest x split all =
    let whole : All P (x ∷ rest) = subst (All P) split all in
    λ k d less. whole (suc k) d (omega arith)

-- the first string, and those of the other offsets
pub first_string : (bytes offsets : List ℕ) → 1 < length offsets
    → strings_of bytes offsets ≡ slice_range bytes (get_or offsets 0 0) (get_or offsets 1 0) ∷ strings_of bytes (drop 1 offsets)
unfolding strings_of
first_string bytes [] some = absurd (omega arith)
first_string bytes (a ∷ []) some = absurd (omega arith)
first_string bytes (a ∷ b ∷ offsets) some = refl

-- without the first offset, the offsets are valid, and the strings are UTF-8
pub strings_after : (bytes offsets : List ℕ) → 1 < length offsets → AreStrings bytes offsets → AreStrings bytes (drop 1 offsets)
strings_after bytes offsets some are =
    let next : (k : ℕ) → get_or (drop 1 offsets) k 0 ≡ get_or offsets (k + 1) 0 =
    λ k. get_or-drop 1 offsets k 0 ∙ ap (λ (n : ℕ). get_or offsets n 0) (omega arith) in record {
      ends = record {
        some = omega (arith, length-drop 1 offsets);
        ascending = λ k less. subst (λ (m : ℕ). m ≤ get_or (drop 1 offsets) (k + 1) 0) (sym (next k)) (subst (λ (m : ℕ). get_or offsets (k + 1) 0 ≤ m) (sym (next (k + 1))) (are.ends.ascending (k + 1) (omega (arith, length-drop 1 offsets))));
        within = λ k less. subst (λ (m : ℕ). m ≤ length bytes) (sym (next k)) (are.ends.within (k + 1) (omega (arith, length-drop 1 offsets)));
      };
      utf8 = all_after IsUtf8 (strings_of bytes offsets) (strings_of bytes (drop 1 offsets)) _ (first_string bytes offsets some) are.utf8;
    }

-- where there is a string, there are two offsets
pub one_offset : (bytes offsets : List ℕ) → ¬ (strings_of bytes offsets ≡ []) → 1 < length offsets
unfolding strings_of
one_offset bytes [] some = absurd (some refl)
one_offset bytes (a ∷ []) some = absurd (some refl)
one_offset bytes (a ∷ b ∷ offsets) some = omega arith
