-- Calls on the sketches of many handles. A list has what each handle holds.
use Rattle.std.specs.Prelude.{◌≡◌, ◌⊎◌, ◌<◌, ℤ, List, [], ◌∷◌, Option, None, Some, length}
use Rattle.sketch_base.specs.declared.fault.Fault.TheVariants.{NoMemory}
use Rattle.datasketches_c.specs.Kinds.{OnKind}
use Rattle.datasketches_c.specs.Numbers.{refusal_number}
use Rattle.datasketches_c.specs.declared.held_sketch.HeldSketch.{HeldSketch}

-- the statement holds. Or the result is `NoMemory`, which comes only if there are other sketches
abbrev pub OrNoMemory : {S : Type 0} → ℤ → (others : List S) → Type 0 → Type 0
OrNoMemory result others said = ((result ≡ refusal_number NoMemory) × (0 < length others)) ⊎ said

module _ {S : Type 0} (part : HeldSketch → Option S) where
  -- the statement holds of the list of sketches of this kind. If a handle has none, the result is the error of the first such handle
  abbrev pub OnEachKind : List (Option HeldSketch) → ℤ → (List S → Type 0) → Type 0
  OnEachKind [] result said = said []
  OnEachKind (held ∷ rest) result said = OnKind part held held result (λ s. OnEachKind rest result (λ ss. said (s ∷ ss)))

  -- the sketch of this kind, if there is one
  abbrev pub found_in : Option HeldSketch → Option S
  found_in None = None
  found_in (Some held) = part held
