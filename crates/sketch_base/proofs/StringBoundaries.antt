-- Strings that follow one another in a buffer are UTF-8 if the whole is, and each of them begins at a character.
use Rattle.std.proofs.Common.{◌≡◌, ℕ, zero, suc, ◌+◌, ◌-◌, ◌<◌, ◌≤◌, List, [], ◌++◌, length, take, drop, get_or, sym, ap, ◌∙◌, subst, arith, length-drop}
use Rattle.std.proofs.Math.Seq.{take-add}
use Rattle.std.proofs.lemmas.List.{drop-drop, drop-take, take-take, get_or_default, length-take-le}
use Rattle.std.proofs.lemmas.Str.{IsUtf8-nil, IsUtf8-append, IsUtf8-between, IsCharBoundary-from_take}
use Rattle.std.specs.List.{All, slice_range}
use Rattle.std.specs.Str.{IsUtf8, IsCharBoundary}
use Rattle.sketch_base.specs.Strings.{AreOffsets, strings_of}
use Rattle.sketch_base.proofs.ManyStrings.{length-strings_of, get_or-strings_of}

-- a range is the range up to an index between, and that from there on
split_range : (xs : List ℕ) (a b c : ℕ) → a ≤ b → b ≤ c → slice_range xs a c ≡ slice_range xs a b ++ slice_range xs b c
split_range xs a b c le more =
    let sum : c - a ≡ (b - a) + (c - b) = omega arith in
    let there : a + (b - a) ≡ b = omega arith in
    ap (λ n. take n (drop a xs)) sum
    ∙ (take-add (b - a) (c - b) (drop a xs)
    ∙ ap (λ ys. slice_range xs a b ++ take (c - b) ys) (drop-drop (b - a) a xs ∙ ap (λ n. drop n xs) there))

-- a range within a range
range_within : (xs : List ℕ) (f a b l : ℕ) → f ≤ a → a ≤ b → b ≤ l → take (b - a) (drop (a - f) (slice_range xs f l)) ≡ slice_range xs a b
range_within xs f a b l first le last =
    let sum : l - f ≡ (a - f) + (l - a) = omega arith in
    let there : f + (a - f) ≡ a = omega arith in
    let few : b - a ≤ l - a = omega arith in
    ap (λ n. take (b - a) (drop (a - f) (take n (drop f xs)))) sum
    ∙ (ap (take (b - a)) (drop-take (a - f) (l - a) (drop f xs) ∙ ap (take (l - a)) (drop-drop (a - f) f xs ∙ ap (λ n. drop n xs) there))
    ∙ take-take (b - a) (l - a) (drop a xs) few)

module _ (bytes offsets : List ℕ) (ends : AreOffsets bytes offsets) where
  abbrev at : ℕ → ℕ
  at k = get_or offsets k 0

  -- the bytes from the first offset to the last
  abbrev pub whole : List ℕ
  whole = slice_range bytes (at 0) (at (length offsets - 1))

  ordered_by : (k i j : ℕ) → j ≡ i + k → j < length offsets → at i ≤ at j
  ordered_by zero i j e lt = let same : at j ≡ at i = ap at (omega arith) in omega arith
  ordered_by (suc k) i j e lt =
      let before : at i ≤ at (i + k) = ordered_by k i (i + k) (λ _. i + k) (omega arith) in
      let next : at (i + k) ≤ at (i + k + 1) = ends.ascending (i + k) (omega arith) in
      let same : at j ≡ at (i + k + 1) = ap at (omega arith) in
      omega arith

  -- no offset is below one before it
  pub ordered : (i j : ℕ) → i ≤ j → j < length offsets → at i ≤ at j
  ordered i j le lt = ordered_by (j - i) i j (omega arith) lt

  pub whole_ends : (at 0 ≤ at (length offsets - 1)) × (at (length offsets - 1) ≤ length bytes)
  whole_ends =
      let some : 0 < length offsets = ends.some in
      (ordered 0 (length offsets - 1) (omega arith) (omega arith), ends.within (length offsets - 1) (omega arith))

  length-whole : length whole ≡ at (length offsets - 1) - at 0
  length-whole =
      let e = whole_ends in
      length-take-le (at (length offsets - 1) - at 0) (drop (at 0) bytes) (omega (arith, length-drop (at 0) bytes, e.0, e.1))

  -- if all strings are UTF-8, so are those before each index together
  prefix_utf8 : All IsUtf8 (strings_of bytes offsets) → (k : ℕ) → k < length offsets → IsUtf8 (slice_range bytes (at 0) (at k))
  prefix_utf8 all zero lt =
      let none : at 0 - at 0 ≡ 0 = omega arith in
      subst IsUtf8 (sym (ap (λ n. take n (drop (at 0) bytes)) none)) IsUtf8-nil
  prefix_utf8 all (suc k) lt =
      let next : k + 1 ≡ suc k = omega arith in
      let there : k + 1 < length offsets = omega arith in
      let within : k < length (strings_of bytes offsets) = omega (arith, length-strings_of bytes offsets) in
      let string : IsUtf8 (slice_range bytes (at k) (at (k + 1))) = subst IsUtf8 (get_or-strings_of bytes offsets k there) (all k [] within) in
      subst (λ n. IsUtf8 (slice_range bytes (at 0) (at n))) next
      (subst IsUtf8 (sym (split_range bytes (at 0) (at k) (at (k + 1)) (ordered 0 k (omega arith) (omega arith)) (ends.ascending k there)))
      (IsUtf8-append (slice_range bytes (at 0) (at k)) (slice_range bytes (at k) (at (k + 1))) (prefix_utf8 all k (omega arith)) string))

  -- so the whole is
  pub whole_from_all : All IsUtf8 (strings_of bytes offsets) → IsUtf8 whole
  whole_from_all all = let some : 0 < length offsets = ends.some in prefix_utf8 all (length offsets - 1) (omega arith)

  -- and each of them begins at a character
  pub boundary_from_all : All IsUtf8 (strings_of bytes offsets) → (k : ℕ) → k < length offsets → IsCharBoundary whole (at k - at 0)
  boundary_from_all all k lt =
      let last : at k ≤ at (length offsets - 1) = ordered k (length offsets - 1) (omega arith) (omega arith) in
      let first : at 0 ≤ at k = ordered 0 k (omega arith) lt in
      let within : at k - at 0 ≤ length whole = omega (arith, length-whole) in
      let few : at k - at 0 ≤ at (length offsets - 1) - at 0 = omega arith in
      IsCharBoundary-from_take whole (at k - at 0) (whole_from_all all) within
      (subst IsUtf8 (sym (take-take (at k - at 0) (at (length offsets - 1) - at 0) (drop (at 0) bytes) few)) (prefix_utf8 all k lt))

  -- if the whole is UTF-8 and each string begins at a character, all strings are UTF-8
  pub all_from_whole : IsUtf8 whole → ((k : ℕ) → k < length offsets → IsCharBoundary whole (at k - at 0)) → All IsUtf8 (strings_of bytes offsets)
  all_from_whole utf8 boundary k d lt =
      let there : k + 1 < length offsets = omega (arith, length-strings_of bytes offsets) in
      let first : at 0 ≤ at k = ordered 0 k (omega arith) (omega arith) in
      let next : at k ≤ at (k + 1) = ends.ascending k there in
      let last : at (k + 1) ≤ at (length offsets - 1) = ordered (k + 1) (length offsets - 1) (omega arith) (omega arith) in
      let size : (at (k + 1) - at 0) - (at k - at 0) ≡ at (k + 1) - at k = omega arith in
      let is : take ((at (k + 1) - at 0) - (at k - at 0)) (drop (at k - at 0) whole) ≡ slice_range bytes (at k) (at (k + 1)) =
      ap (λ n. take n (drop (at k - at 0) whole)) size ∙ range_within bytes (at 0) (at k) (at (k + 1)) (at (length offsets - 1)) first next last in
      subst IsUtf8 (is ∙ sym (get_or-strings_of bytes offsets k there) ∙ get_or_default (strings_of bytes offsets) k [] d lt)
      (IsUtf8-between whole (at k - at 0) (at (k + 1) - at 0) utf8 (omega arith) (boundary k (omega arith)) (boundary (k + 1) there))
