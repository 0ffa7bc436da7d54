-- What is said of a handle's sketch of a kind.
use Rattle.std.proofs.Common.{◌≡◌, Option, None, Some, ℤ, sym, subst}
use Rattle.datasketches_c.specs.Kinds.{OnKindOr, OnPartOr}
use Rattle.datasketches_c.specs.Numbers.{no_sketch}
use Rattle.datasketches_c.specs.declared.held_sketch.HeldSketch.{HeldSketch}

module _ {S : Type 0} (refusal : HeldSketch → ℤ) (part : HeldSketch → Option S) where
  on_part_less : (found : Option S) (held : HeldSketch) (new : Option HeldSketch) (result : ℤ) (P Q : S → Type 0) → ((s : S) → P s → Q s)
      → OnPartOr refusal part found held new result P → OnPartOr refusal part found held new result Q
  on_part_less (Some s) held new result P Q less said = less s said
  on_part_less None held new result P Q less said = said

  -- what is said of a sketch of a kind can be replaced by what follows from it
  pub on_kind_less : (old new : Option HeldSketch) (result : ℤ) (P Q : S → Type 0) → ((s : S) → P s → Q s)
      → OnKindOr refusal part old new result P → OnKindOr refusal part old new result Q
  on_kind_less None new result P Q less said = said
  on_kind_less (Some held) new result P Q less said = on_part_less (part held) held new result P Q less said

  -- of a handle that had a sketch of the kind is said what holds of that sketch
  pub on_kind_said : (old new : Option HeldSketch) (held : HeldSketch) (s : S) (result : ℤ) (P : S → Type 0) → old ≡ Some held → part held ≡ Some s → P s
      → OnKindOr refusal part old new result P
  on_kind_said old new held s result P is which said =
      subst (λ (h : Option HeldSketch). OnKindOr refusal part h new result P) (sym is) (subst (λ (p : Option S). OnPartOr refusal part p held new result P) (sym which) said)

  -- of a handle that had none is said that the call was refused
  pub on_none_said : (old new : Option HeldSketch) (result : ℤ) (P : S → Type 0) → old ≡ None → new ≡ None → result ≡ no_sketch → OnKindOr refusal part old new result P
  on_none_said old new result P is now refused = subst (λ (h : Option HeldSketch). OnKindOr refusal part h new result P) (sym is) (refused, now)

  -- and the same of one that had a sketch of another kind
  pub on_other_said : (old new : Option HeldSketch) (held : HeldSketch) (result : ℤ) (P : S → Type 0) → old ≡ Some held → part held ≡ None → new ≡ Some held → result ≡ refusal held
      → OnKindOr refusal part old new result P
  on_other_said old new held result P is which now refused =
      subst (λ (h : Option HeldSketch). OnKindOr refusal part h new result P) (sym is) (subst (λ (p : Option S). OnPartOr refusal part p held new result P) (sym which) (refused, now))
