-- Sketches of many handles, and the kind that each has.
use Rattle.std.proofs.Common.{◌≡◌, ◌≢◌, ℕ, zero, suc, ◌+◌, ◌<◌, ℤ, List, [], ◌∷◌, Option, None, Some, length, map, drop, get_or, refl, sym, ap, ◌∙◌, subst, arith}
use Rattle.std.specs.Option.{IsSome}
use Rattle.std.proofs.lemmas.List.{drop_more, get_or-map, length-map}
use Rattle.datasketches_c.specs.Kinds.{OnKind, OnPartOr}
use Rattle.datasketches_c.specs.ManyHandles.{OnEachKind, found_in}
use Rattle.datasketches_c.specs.Numbers.{ok, no_sketch, wrong_kind}
use Rattle.datasketches_c.specs.Sharing.{unreadable}
use Rattle.datasketches_c.specs.declared.held_sketch.HeldSketch.{HeldSketch}
use Rattle.datasketches_c.proofs.KindLemmas.{on_kind_less}

module _ {S : Type 0} (part : HeldSketch → Option S) where
  on_part_moved : (found : Option S) (held : HeldSketch) (z : ℤ) (P Q : S → Type 0) → ((s : S) → P s → Q s) → OnPartOr unreadable part found held (Some held) ok P
      → OnPartOr unreadable part found held (Some held) z Q
  on_part_moved (Some s) held z P Q less said = less s said
  on_part_moved None held z P Q less said = let e : ok ≡ wrong_kind = said.0 in cc

  -- what is said for `ok` is said of a sketch of the kind, and so for another result too
  pub on_kind_moved : (held : Option HeldSketch) (z : ℤ) (P Q : S → Type 0) → ((s : S) → P s → Q s) → OnKind part held held ok P → OnKind part held held z Q
  on_kind_moved None z P Q less said = let e : ok ≡ no_sketch = said.0 in cc
  on_kind_moved (Some held) z P Q less said = on_part_moved (part held) held z P Q less said

  -- what is said of the sketches can be replaced by what follows from it
  pub on_each_less : (held : List (Option HeldSketch)) (z : ℤ) (P Q : List S → Type 0) → ((ss : List S) → P ss → Q ss) → OnEachKind part held z P → OnEachKind part held z Q
  on_each_less [] z P Q less said = less [] said
  on_each_less (v ∷ rest) z P Q less said =
      on_kind_less unreadable part v v z (λ s. OnEachKind part rest z (λ ss. P (s ∷ ss))) (λ s. OnEachKind part rest z (λ ss. Q (s ∷ ss)))
      (λ s is. on_each_less rest z (λ ss. P (s ∷ ss)) (λ ss. Q (s ∷ ss)) (λ ss. less (s ∷ ss)) is) said

  -- the same of many sketches, as many as handles
  pub on_each_moved : (held : List (Option HeldSketch)) (z : ℤ) (P Q : List S → Type 0) → ((ss : List S) → length ss ≡ length held → P ss → Q ss) → OnEachKind part held ok P
      → OnEachKind part held z Q
  on_each_moved [] z P Q less said = less [] refl said
  on_each_moved (v ∷ rest) z P Q less said =
      on_kind_moved v z (λ s. OnEachKind part rest ok (λ ss. P (s ∷ ss))) (λ s. OnEachKind part rest z (λ ss. Q (s ∷ ss)))
      (λ s is. on_each_moved rest z (λ ss. P (s ∷ ss)) (λ ss. Q (s ∷ ss)) (λ ss long. less (s ∷ ss) (ap suc long)) is) said

  -- a handle that has a sketch of the kind comes before handles of which something is said
  pub on_each_next : (v : Option HeldSketch) (rest : List (Option HeldSketch)) (z : ℤ) → OnKind part v v ok (λ s. ok ≡ ok) → OnEachKind part rest z (λ ss. z ≡ ok)
      → OnEachKind part (v ∷ rest) z (λ ss. z ≡ ok)
  on_each_next v rest z one said = on_kind_moved v z (λ s. ok ≡ ok) (λ s. OnEachKind part rest z (λ ss. z ≡ ok)) (λ s is. said) one

  -- a handle that has none is the first of those
  pub on_each_stopped : (v : Option HeldSketch) (rest : List (Option HeldSketch)) (z : ℤ) → z ≢ ok → OnKind part v v z (λ s. z ≡ ok) → OnEachKind part (v ∷ rest) z (λ ss. z ≡ ok)
  on_each_stopped v rest z not one =
      on_kind_less unreadable part v v z (λ s. z ≡ ok) (λ s. OnEachKind part rest z (λ ss. z ≡ ok)) (λ s is. absurd (not is)) one

  -- lists of sketches are those of the kind
  found_part : (found : Option S) (held : HeldSketch) (s : S) (z : ℤ) (Q : S → Type 0) → found ≡ Some s → Q s → OnPartOr unreadable part found held (Some held) z Q
  found_part found held s z Q is said = subst (λ (f : Option S). OnPartOr unreadable part f held (Some held) z Q) (sym is) said

  found_kind : (v : Option HeldSketch) (s : S) (z : ℤ) (Q : S → Type 0) → found_in part v ≡ Some s → Q s → OnKind part v v z Q
  found_kind None s z Q is said = cc
  found_kind (Some held) s z Q is said = found_part (part held) held s z Q is said

  head_is : (v w : Option S) (vs ws : List (Option S)) → v ∷ vs ≡ w ∷ ws → v ≡ w
  head_is v w vs ws e = cc

  tail_is : (v w : Option S) (vs ws : List (Option S)) → v ∷ vs ≡ w ∷ ws → vs ≡ ws
  tail_is v w vs ws e = cc

  -- what holds of the list of all sketches is said of the handles
  pub on_each_found : (held : List (Option HeldSketch)) (ss : List S) (z : ℤ) (Q : List S → Type 0) → map (found_in part) held ≡ map Some ss → Q ss → OnEachKind part held z Q
  on_each_found [] [] z Q is said = said
  on_each_found [] (s ∷ ss) z Q is said = cc
  on_each_found (v ∷ rest) [] z Q is said = cc
  on_each_found (v ∷ rest) (s ∷ ss) z Q is said =
      found_kind v s z (λ t. OnEachKind part rest z (λ ts. Q (t ∷ ts))) (head_is (found_in part v) (Some s) (map (found_in part) rest) (map Some ss) is)
      (on_each_found rest ss z (λ ts. Q (s ∷ ts)) (tail_is (found_in part v) (Some s) (map (found_in part) rest) (map Some ss) is) said)

  some_part : (found : Option S) (held : HeldSketch) (P : S → Type 0) → OnPartOr unreadable part found held (Some held) ok P → IsSome found
  some_part (Some s) held P said = refl
  some_part None held P said = let e : ok ≡ wrong_kind = said.0 in cc

  some_kind : (v : Option HeldSketch) (P : S → Type 0) → OnKind part v v ok P → IsSome (found_in part v)
  some_kind None P said = let e : ok ≡ no_sketch = said.0 in cc
  some_kind (Some held) P said = some_part (part held) held P said

  part_out : {Y : Type 0} (found : Option S) (held : HeldSketch) (P : S → Type 0) → ((s : S) → P s → Y) → OnPartOr unreadable part found held (Some held) ok P → Y
  part_out (Some s) held P follows said = follows s said
  part_out None held P follows said = let e : ok ≡ wrong_kind = said.0 in cc

  kind_out : {Y : Type 0} (v : Option HeldSketch) (P : S → Type 0) → ((s : S) → P s → Y) → OnKind part v v ok P → Y
  kind_out None P follows said = let e : ok ≡ no_sketch = said.0 in cc
  kind_out (Some held) P follows said = part_out (part held) held P follows said

  -- each of the handles that all have a sketch of the kind has one
  pub some_at : (held : List (Option HeldSketch)) (i : ℕ) (d : Option HeldSketch) (P : List S → Type 0) → i < length held → OnEachKind part held ok P
      → IsSome (found_in part (get_or held i d))
  some_at [] i d P there said = absurd (omega arith)
  some_at (v ∷ rest) zero d P there said = some_kind v (λ s. OnEachKind part rest ok (λ ss. P (s ∷ ss))) said
  some_at (v ∷ rest) (suc i) d P there said =
      let left : i < length rest = omega arith in
      kind_out v (λ s. OnEachKind part rest ok (λ ss. P (s ∷ ss))) (λ s is. some_at rest i d (λ ss. P (s ∷ ss)) left is) said

  -- the same of a list of what the handles had
  pub some_taken : {X : Type 0} (of : X → Option HeldSketch) (taken : List X) (i : ℕ) (x : X) (P : List S → Type 0) → i < length taken → x ≡ get_or taken i x
      → OnEachKind part (map of taken) ok P → IsSome (found_in part (of x))
  some_taken of taken i x P there is said =
      let long : i < length (map of taken) = subst (λ (n : ℕ). i < n) (sym (length-map taken of)) there in
      let same : get_or (map of taken) i (of x) ≡ of x = get_or-map of taken i x (of x) there ∙ ap of (sym is) in
      subst (λ (v : Option HeldSketch). IsSome (found_in part v)) same (some_at (map of taken) i (of x) P long said)

-- the values of handles from one on
pub values_from : {H A : Type 0} (value : H → A) (handles : List H) (held : List A) (i : ℕ) (d : H) → i < length handles → map value handles ≡ held
    → drop i held ≡ value (get_or handles i d) ∷ drop (i + 1) held
values_from value handles held i d there same =
    let long : i < length (map value handles) = subst (λ (n : ℕ). i < n) (sym (length-map handles value)) there in
    ap (drop i) (sym same)
    ∙ (drop_more (map value handles) i (value d) long
    ∙ (ap (λ x. x ∷ drop (i + 1) (map value handles)) (get_or-map value handles i d (value d) there)
    ∙ ap (λ vs. value (get_or handles i d) ∷ drop (i + 1) vs) same))

-- lists as long as one that is not empty are not empty
pub some_more : {H A S : Type 0} (value : H → A) (handles : List H) (ss : List S) → length ss ≡ length (map value handles) → 0 < length handles → 0 < length ss
some_more value handles ss long some = subst (λ (n : ℕ). 0 < n) (sym (long ∙ length-map handles value)) some
