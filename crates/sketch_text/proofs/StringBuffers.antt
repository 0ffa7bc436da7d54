-- One more string in a buffer.
use Rattle.std.proofs.Common.{◌≡◌, ℕ, ◌+◌, ◌-◌, ◌<◌, ◌≤◌, List, [], ◌∷◌, ◌++◌, length, get_or, take, drop, refl, sym, ◌∙◌, ap, subst, arith, ⊎_elim, length-append, length-drop}
use Rattle.std.specs.List.{All, slice_range}
use Rattle.std.specs.Str.{IsUtf8}
use Rattle.std.proofs.lemmas.Bool.{cases_lt}
use Rattle.std.proofs.lemmas.List.{drop-append-le, ext_get_or, get_or_push, take-append-le, take_all}
use Rattle.std.proofs.lemmas.List.Elements.{All-push}
use Rattle.std.proofs.Math.ListN.{get_or-append}
use Rattle.std.proofs.Math.Seq.{drop-append_seam}
use Rattle.sketch_base.specs.Strings.{AreBuffered, strings_of}
use Rattle.sketch_base.proofs.ManyStrings.{get_or-strings_of, length-strings_of}

-- a range of the first bytes
range_kept : (bytes more : List ℕ) (a b : ℕ) → a ≤ b → b ≤ length bytes → slice_range (bytes ++ more) a b ≡ slice_range bytes a b
range_kept bytes more a b ordered within =
    ap (take (b - a)) (drop-append-le a bytes more (omega arith))
    ∙ take-append-le (b - a) (drop a bytes) more (omega (arith, length-drop a bytes))

-- the range of the last bytes
range_added : (bytes more : List ℕ) (end : ℕ) → end ≡ length bytes + length more → slice_range (bytes ++ more) (length bytes) end ≡ more
range_added bytes more end is = ap (take (end - length bytes)) (drop-append_seam bytes more) ∙ take_all (end - length bytes) more (omega (arith, is))

module _ (bytes offsets item : List ℕ) (end : ℕ) (are : AreBuffered bytes offsets) (is : end ≡ length bytes + length item) where
  some : 0 < length offsets
  some = are.strings.ends.some

  last : get_or (offsets ++ end ∷ []) (length offsets - 1) 0 ≡ length bytes
  last = get_or-append offsets (end ∷ []) 0 (length offsets - 1) (omega (arith, some)) ∙ are.end

  added : get_or (offsets ++ end ∷ []) (length offsets) 0 ≡ end
  added = get_or_push offsets end 0 (length offsets) refl

  at_kept : (i : ℕ) → i < length offsets → get_or (offsets ++ end ∷ []) i 0 ≡ get_or offsets i 0
  at_kept i less = get_or-append offsets (end ∷ []) 0 i less

  long : length (offsets ++ end ∷ []) ≡ length offsets + 1
  long = length-append offsets (end ∷ [])

  same_at : (i : ℕ) → i < length (strings_of (bytes ++ item) (offsets ++ end ∷ [])) → get_or (strings_of (bytes ++ item) (offsets ++ end ∷ [])) i [] ≡ get_or (strings_of bytes offsets ++ item ∷ []) i []
  same_at i less =
      let within : i < length offsets = omega (arith, long, length-strings_of (bytes ++ item) (offsets ++ end ∷ []), less) in
      get_or-strings_of (bytes ++ item) (offsets ++ end ∷ []) i (omega (arith, long, within))
      ∙ ⊎_elim
      (λ (before : i + 1 < length offsets).
      ap (λ (a : ℕ). slice_range (bytes ++ item) a (get_or (offsets ++ end ∷ []) (i + 1) 0)) (at_kept i within)
      ∙ (ap (λ (b : ℕ). slice_range (bytes ++ item) (get_or offsets i 0) b) (at_kept (i + 1) before)
      ∙ (range_kept bytes item (get_or offsets i 0) (get_or offsets (i + 1) 0) (are.strings.ends.ascending i before) (are.strings.ends.within (i + 1) before)
      ∙ (sym (get_or-strings_of bytes offsets i before)
      ∙ sym (get_or-append (strings_of bytes offsets) (item ∷ []) [] i (omega (arith, length-strings_of bytes offsets, before)))))))
      (λ (not_before : length offsets ≤ i + 1).
      let here : i ≡ length offsets - 1 = omega (arith, within, not_before) in
      let next : i + 1 ≡ length offsets = omega (arith, here, some) in
      ap (λ (a : ℕ). slice_range (bytes ++ item) a (get_or (offsets ++ end ∷ []) (i + 1) 0)) (ap (λ (n : ℕ). get_or (offsets ++ end ∷ []) n 0) here ∙ last)
      ∙ (ap (λ (b : ℕ). slice_range (bytes ++ item) (length bytes) b) (ap (λ (n : ℕ). get_or (offsets ++ end ∷ []) n 0) next ∙ added)
      ∙ (range_added bytes item end is
      ∙ sym (get_or_push (strings_of bytes offsets) item [] i (length-strings_of bytes offsets ∙ sym here)))))
      (cases_lt (i + 1) (length offsets))

  -- the strings, and the new one after them
  pub one_more : strings_of (bytes ++ item) (offsets ++ end ∷ []) ≡ strings_of bytes offsets ++ item ∷ []
  one_more =
      ext_get_or [] (strings_of (bytes ++ item) (offsets ++ end ∷ [])) (strings_of bytes offsets ++ item ∷ [])
      (omega (arith, long, some, length-strings_of (bytes ++ item) (offsets ++ end ∷ []), length-strings_of bytes offsets, length-append (strings_of bytes offsets) (item ∷ [])))
      same_at

  wide : length (bytes ++ item) ≡ end
  wide = length-append bytes item ∙ sym is

  ascends : (k : ℕ) → k + 1 < length (offsets ++ end ∷ []) → get_or (offsets ++ end ∷ []) k 0 ≤ get_or (offsets ++ end ∷ []) (k + 1) 0
  ascends k less =
      ⊎_elim
      (λ (before : k + 1 < length offsets). omega (arith, at_kept k (omega (arith, before)), at_kept (k + 1) before, are.strings.ends.ascending k before))
      (λ (past : length offsets ≤ k + 1).
      let here : k ≡ length offsets - 1 = omega (arith, long, less, past) in
      let next : k + 1 ≡ length offsets = omega (arith, long, less, past) in
      omega (arith, ap (λ (n : ℕ). get_or (offsets ++ end ∷ []) n 0) here, last, ap (λ (n : ℕ). get_or (offsets ++ end ∷ []) n 0) next, added, is))
      (cases_lt (k + 1) (length offsets))

  stays : (k : ℕ) → k < length (offsets ++ end ∷ []) → get_or (offsets ++ end ∷ []) k 0 ≤ length (bytes ++ item)
  stays k less =
      ⊎_elim
      (λ (before : k < length offsets). omega (arith, at_kept k before, are.strings.ends.within k before, wide, is))
      (λ (past : length offsets ≤ k).
      let here : k ≡ length offsets = omega (arith, long, less, past) in
      omega (arith, ap (λ (n : ℕ). get_or (offsets ++ end ∷ []) n 0) here, added, wide))
      (cases_lt k (length offsets))

  pub buffered_more : IsUtf8 item → AreBuffered (bytes ++ item) (offsets ++ end ∷ [])
  buffered_more utf8 = record {
    strings = record {
      ends = record { some = omega (arith, long); ascending = ascends; within = stays };
      utf8 = subst (All IsUtf8) (sym one_more) (All-push IsUtf8 (strings_of bytes offsets) item are.strings.utf8 utf8);
    };
    end =
        let last_at : length (offsets ++ end ∷ []) - 1 ≡ length offsets = omega (arith, long) in
        ap (λ (n : ℕ). get_or (offsets ++ end ∷ []) n 0) last_at ∙ added ∙ sym wide;
  }

-- no string
pub no_strings : strings_of [] (0 ∷ []) ≡ []
unfolding strings_of
no_strings = refl

zero_within : (k : ℕ) → k < 1 → get_or (0 ∷ []) k 0 ≤ 0
zero_within k less = let here : k ≡ 0 = omega (arith, less) in subst (λ (n : ℕ). get_or (0 ∷ []) n 0 ≤ 0) (sym here) (omega arith)

pub buffered_none : AreBuffered [] (0 ∷ [])
buffered_none = record {
  strings = record {
    ends = record { some = omega arith; ascending = λ k less. absurd (omega (arith, less)); within = λ k less. zero_within k less };
    utf8 = subst (All IsUtf8) (sym no_strings) (λ k d less. absurd (omega (arith, less)));
  };
  end = refl;
}
