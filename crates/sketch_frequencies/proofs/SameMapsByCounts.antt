-- Counters with the same counts are the same map.
use Rattle.std.proofs.Common.{◌≡◌, ℕ, ◌<◌, Bool, true, false, cond, List, [], ◌∷◌, refl, sym, ◌∙◌, arith, unwrap_or, Some, IsPermutation}
use Rattle.std.specs.Cmp.{IsEquivalence}
use Rattle.std.specs.List.{All, IsDistinct}
use Rattle.std.specs.Map.{keys_of, lookup}
use Rattle.std.proofs.lemmas.List.Elements.{All-head, All-tail}
use Rattle.std.proofs.lemmas.List.Sorted.{IsPermutation-refl, IsPermutation-cons, IsPermutation-middle, IsPermutation-trans, IsPermutation-map, All-permutation}
use Rattle.std.proofs.lemmas.Map.Keys.{IsDistinct-head, IsDistinct-tail, IsDistinct-IsPermutation}
use Rattle.counter_table.specs.Tables.{count_of, IsSameMap}
use Rattle.sketch_frequencies.proofs.Cases.{by_test}
use Rattle.sketch_frequencies.proofs.Permutations.{absent_count, count_of-permutation}

module _ {T : Type 0} {eq : T → T → Bool} (laws : IsEquivalence eq) where
  -- the entry of an item, and the others
  record IsTakenOut (es : List (T × ℕ)) (x : T) (count : ℕ) : Type 0 where
    pub entry : T × ℕ
    pub rest : List (T × ℕ)
    pub whole : IsPermutation es (entry ∷ rest)
    pub same : eq x entry.0 ≡ true
    pub count_is : entry.1 ≡ count

  taken_out : (es : List (T × ℕ)) (x : T) → 0 < count_of eq es x → IsTakenOut es x (count_of eq es x)
  taken_out [] x some = absurd (omega (arith, some))
  taken_out (e ∷ es) x some =
      by_test (eq x e.0) (λ b. eq x e.0 ≡ b → 0 < unwrap_or (cond b (Some e.1) (lookup (eq x) es)) 0 → IsTakenOut (e ∷ es) x (unwrap_or (cond b (Some e.1) (lookup (eq x) es)) 0))
      (λ _ is _. record { entry = e; rest = es; whole = IsPermutation-refl (e ∷ es); same = is; count_is = refl })
      (λ _ _ more.
      let t = taken_out es x more in
      record {
        entry = t.entry;
        rest = e ∷ t.rest;
        whole = IsPermutation-trans (e ∷ es) (e ∷ t.entry ∷ t.rest) (t.entry ∷ e ∷ t.rest) (IsPermutation-cons e es (t.entry ∷ t.rest) t.whole) (IsPermutation-middle (e ∷ []) t.entry t.rest);
        same = t.same;
        count_is = t.count_is;
      }) refl some

  -- what is left has the same counts too
  left_counts : (e f : T × ℕ) (es fs : List (T × ℕ)) → eq f.0 e.0 ≡ true → IsDistinct eq (keys_of (e ∷ es)) → IsDistinct eq (keys_of (f ∷ fs)) → ((y : T) → count_of eq (e ∷ es) y ≡ count_of eq (f ∷ fs) y) → (y : T) → count_of eq es y ≡ count_of eq fs y
  left_counts e f es fs same apart apart' counts y =
      let like : eq y f.0 ≡ eq y e.0 = laws.symm y f.0 ∙ laws.congr f.0 e.0 y same ∙ laws.symm e.0 y in
      by_test (eq y f.0) (λ b. eq y f.0 ≡ b → count_of eq es y ≡ count_of eq fs y)
      (λ _ is. absent_count laws e.0 y es (IsDistinct-head eq e.0 (keys_of es) apart) (sym like ∙ is) ∙ sym (absent_count laws f.0 y fs (IsDistinct-head eq f.0 (keys_of fs) apart') is))
      (λ _ is.
      let here : eq y e.0 ≡ false = sym like ∙ is in
      let first : count_of eq (e ∷ es) y ≡ count_of eq es y = rw here refl in
      let second : count_of eq (f ∷ fs) y ≡ count_of eq fs y = rw is refl in
      sym first ∙ counts y ∙ second) refl

  pub same_map : (es fs : List (T × ℕ)) → IsDistinct eq (keys_of es) → IsDistinct eq (keys_of fs) → All (λ e. 0 < e.1) es → All (λ e. 0 < e.1) fs → ((y : T) → count_of eq es y ≡ count_of eq fs y) → IsSameMap eq es fs
  same_map [] [] apart apart' some some' counts = record { order = []; whole = IsPermutation-refl []; same = tt }
  same_map (e ∷ es) [] apart apart' some some' counts =
      let first : count_of eq (e ∷ es) e.0 ≡ e.1 = rw (laws.refl e.0) refl in
      absurd (omega (arith, counts e.0, first, All-head (λ (p : T × ℕ). 0 < p.1) e es some))
  same_map es (f ∷ fs) apart apart' some some' counts =
      let P : T × ℕ → Type 0 = λ p. 0 < p.1 in
      let first : count_of eq (f ∷ fs) f.0 ≡ f.1 = rw (laws.refl f.0) refl in
      let t = taken_out es f.0 (omega (arith, counts f.0, first, All-head P f fs some')) in
      let key : T × ℕ → T = λ p. p.0 in
      let apart_taken = IsDistinct-IsPermutation eq laws.symm (keys_of es) (keys_of (t.entry ∷ t.rest)) (IsPermutation-map key es (t.entry ∷ t.rest) t.whole) apart in
      let some_taken = All-permutation P es (t.entry ∷ t.rest) t.whole some in
      let left = left_counts t.entry f t.rest fs t.same apart_taken apart' (λ y. count_of-permutation laws es (t.entry ∷ t.rest) y apart t.whole ∙ counts y) in
      let more = same_map t.rest fs (IsDistinct-tail eq t.entry.0 (keys_of t.rest) apart_taken) (IsDistinct-tail eq f.0 (keys_of fs) apart') (All-tail P t.entry t.rest some_taken) (All-tail P f fs some') left in
      record {
        order = t.entry ∷ more.order;
        whole = IsPermutation-trans es (t.entry ∷ t.rest) (t.entry ∷ more.order) t.whole (IsPermutation-cons t.entry t.rest more.order more.whole);
        same = ((laws.symm t.entry.0 f.0 ∙ t.same, sym first ∙ sym (counts f.0) ∙ sym t.count_is), more.same);
      }
