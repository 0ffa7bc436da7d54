-- What entries of equal items with the same counts have in common.
use Rattle.std.proofs.Common.{◌≡◌, ℕ, ◌<◌, Bool, true, false, cond, List, [], ◌∷◌, length, refl, ap, sym, ◌∙◌, arith, unwrap_or, is_some}
use Rattle.std.specs.Cmp.{IsEquivalence}
use Rattle.std.specs.List.{All, AllByRecursion, AllZip, IsDistinct, list_any}
use Rattle.std.specs.Map.{lookup, keys_of}
use Rattle.std.proofs.lemmas.List.Elements.{All-cons, All-head, All-tail}
use Rattle.std.proofs.lemmas.List.Sums.{sum_by-cons}
use Rattle.std.proofs.lemmas.List.Sorted.{IsPermutation-map, All-permutation, length_permutation, sum_by-IsPermutation}
use Rattle.std.proofs.lemmas.Map.Keys.{IsDistinct-head, IsDistinct-tail, IsDistinct-cons, IsDistinct-IsPermutation}
use Rattle.counter_table.specs.Tables.{count_of, is_tracked, sum_of, sum_outside, IsSameEntry, IsSameMap}
use Rattle.sketch_frequencies.proofs.Permutations.{count_of-permutation, is_tracked-permutation}
use Rattle.sketch_frequencies.proofs.Puts.{same_set_test}

module _ {T : Type 0} {eq : T → T → Bool} (laws : IsEquivalence eq) where
  -- entry by entry
  zip_length : (es fs : List (T × ℕ)) → AllZip (IsSameEntry eq) es fs → length fs ≡ length es
  zip_length [] [] h = refl
  zip_length [] (f ∷ fs) h = absurd h
  zip_length (e ∷ es) [] h = absurd h
  zip_length (e ∷ es) (f ∷ fs) h = omega (arith, zip_length es fs h.1)

  zip_lookup : (es fs : List (T × ℕ)) (y : T) → AllZip (IsSameEntry eq) es fs → lookup (eq y) fs ≡ lookup (eq y) es
  zip_lookup [] [] y h = refl
  zip_lookup [] (f ∷ fs) y h = absurd h
  zip_lookup (e ∷ es) [] y h = absurd h
  zip_lookup (e ∷ es) (f ∷ fs) y h =
      let alike : eq y f.0 ≡ eq y e.0 = laws.symm y f.0 ∙ (sym (laws.congr e.0 f.0 y h.0.0) ∙ laws.symm e.0 y) in
      rw (alike, h.0.1, zip_lookup es fs y h.1) refl

  zip_apart : (x y : T) (es fs : List (T × ℕ)) → eq x y ≡ true → AllZip (IsSameEntry eq) es fs → AllByRecursion (λ q. eq x q ≡ false) (keys_of es) → AllByRecursion (λ q. eq y q ≡ false) (keys_of fs)
  zip_apart x y [] [] same h all = tt
  zip_apart x y [] (f ∷ fs) same h all = absurd h
  zip_apart x y (e ∷ es) [] same h all = absurd h
  zip_apart x y (e ∷ es) (f ∷ fs) same h all =
      let here : eq y f.0 ≡ false = sym (laws.congr x y f.0 same) ∙ (laws.symm x f.0 ∙ (sym (laws.congr e.0 f.0 x h.0.0) ∙ (laws.symm e.0 x ∙ all.0))) in
      (here, zip_apart x y es fs same h.1 all.1)

  zip_distinct : (es fs : List (T × ℕ)) → AllZip (IsSameEntry eq) es fs → IsDistinct eq (keys_of es) → IsDistinct eq (keys_of fs)
  zip_distinct [] [] h apart = apart
  zip_distinct [] (f ∷ fs) h apart = absurd h
  zip_distinct (e ∷ es) [] h apart = absurd h
  zip_distinct (e ∷ es) (f ∷ fs) h apart =
      IsDistinct-cons eq f.0 (keys_of fs) (zip_apart e.0 f.0 es fs h.0.0 h.1 (IsDistinct-head eq e.0 (keys_of es) apart)) (zip_distinct es fs h.1 (IsDistinct-tail eq e.0 (keys_of es) apart))

  zip_sum : (es fs : List (T × ℕ)) → AllZip (IsSameEntry eq) es fs → sum_of fs ≡ sum_of es
  zip_sum [] [] h = refl
  zip_sum [] (f ∷ fs) h = absurd h
  zip_sum (e ∷ es) [] h = absurd h
  zip_sum (e ∷ es) (f ∷ fs) h = let num : T × ℕ → ℕ = λ e. e.1 in omega (arith, sum_by-cons num e es, sum_by-cons num f fs, h.0.1, zip_sum es fs h.1)

  zip_sum_outside : (set : List T) (es fs : List (T × ℕ)) → AllZip (IsSameEntry eq) es fs → sum_outside eq set fs ≡ sum_outside eq set es
  zip_sum_outside set [] [] h = refl
  zip_sum_outside set [] (f ∷ fs) h = absurd h
  zip_sum_outside set (e ∷ es) [] h = absurd h
  zip_sum_outside set (e ∷ es) (f ∷ fs) h =
      let share : T × ℕ → ℕ = λ e. cond (list_any (eq e.0) set) 0 e.1 in
      let alike : share f ≡ share e = rw (sym (same_set_test laws set e.0 f.0 h.0.0), h.0.1) refl in
      omega (arith, sum_by-cons share e es, sum_by-cons share f fs, alike, zip_sum_outside set es fs h.1)

  zip_positive : (es fs : List (T × ℕ)) → AllZip (IsSameEntry eq) es fs → All (λ e. 0 < e.1) es → All (λ e. 0 < e.1) fs
  zip_positive [] [] h all = all
  zip_positive [] (f ∷ fs) h all = absurd h
  zip_positive (e ∷ es) [] h all = absurd h
  zip_positive (e ∷ es) (f ∷ fs) h all =
      let P : T × ℕ → Type 0 = λ e. 0 < e.1 in
      All-cons P f fs (omega (arith, h.0.1, All-head P e es all)) (zip_positive es fs h.1 (All-tail P e es all))

  -- map by map
  pub same_length : (es fs : List (T × ℕ)) → IsSameMap eq es fs → length fs ≡ length es
  same_length es fs h = zip_length h.order fs h.same ∙ length_permutation es h.order h.whole

  pub same_count : (es fs : List (T × ℕ)) (y : T) → IsDistinct eq (keys_of es) → IsSameMap eq es fs → count_of eq fs y ≡ count_of eq es y
  same_count es fs y apart h = ap (λ o. unwrap_or o 0) (zip_lookup h.order fs y h.same) ∙ count_of-permutation laws es h.order y apart h.whole

  pub same_tracked : (es fs : List (T × ℕ)) (y : T) → IsSameMap eq es fs → is_tracked eq fs y ≡ is_tracked eq es y
  same_tracked es fs y h = ap is_some (zip_lookup h.order fs y h.same) ∙ is_tracked-permutation laws es h.order y h.whole

  pub same_distinct : (es fs : List (T × ℕ)) → IsDistinct eq (keys_of es) → IsSameMap eq es fs → IsDistinct eq (keys_of fs)
  same_distinct es fs apart h = zip_distinct h.order fs h.same (IsDistinct-IsPermutation eq laws.symm (keys_of es) (keys_of h.order) (IsPermutation-map (λ (e : T × ℕ). e.0) es h.order h.whole) apart)

  pub same_sum : (es fs : List (T × ℕ)) → IsSameMap eq es fs → sum_of fs ≡ sum_of es
  same_sum es fs h = zip_sum h.order fs h.same ∙ sum_by-IsPermutation (λ (e : T × ℕ). e.1) es h.order h.whole

  pub same_sum_outside : (set : List T) (es fs : List (T × ℕ)) → IsSameMap eq es fs → sum_outside eq set fs ≡ sum_outside eq set es
  same_sum_outside set es fs h = zip_sum_outside set h.order fs h.same ∙ sum_by-IsPermutation (λ (e : T × ℕ). cond (list_any (eq e.0) set) 0 e.1) es h.order h.whole

  pub same_positive : (es fs : List (T × ℕ)) → IsSameMap eq es fs → All (λ e. 0 < e.1) es → All (λ e. 0 < e.1) fs
  same_positive es fs h all = zip_positive h.order fs h.same (All-permutation (λ e. 0 < e.1) es h.order h.whole all)
