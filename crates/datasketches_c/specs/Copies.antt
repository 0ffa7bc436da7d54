-- Results and effects of copying the sketch of a handle.
use Rattle.std.specs.Prelude.{◌≡◌, Option, Some, None, ℤ}
use Rattle.sketch_base.specs.declared.fault.Fault.TheVariants.{NoMemory}
use Rattle.any_sketch.specs.Copies.{IsCopyOf}
use Rattle.any_sketch.specs.declared.any_sketch.AnySketch.{AnySketch}
use Rattle.datasketches_c.specs.Numbers.{OnDone, OnRefused, ok, no_sketch, refusal_number, wrong_kind}
use Rattle.datasketches_c.specs.Sharing.{unshared}
use Rattle.datasketches_c.specs.declared.held_sketch.HeldSketch.{HeldSketch}
use Rattle.datasketches_c.specs.declared.held_sketch.HeldSketch.TheVariants.{Own}

-- the handle holds a copy of the sketch, which is not shared
abbrev pub HoldsCopy : AnySketch → Option HeldSketch → Type 0
HoldsCopy sketch (Some (Own copy)) = IsCopyOf sketch copy
HoldsCopy sketch held = ⊥

-- the handle holds a copy of a sketch that is not shared, or memory was exhausted and the handle is unchanged
abbrev pub IsCopiedFrom : HeldSketch → (old new : Option HeldSketch) → ℤ → Type 0
IsCopiedFrom (Own sketch) old new result =
    OnDone result ((result ≡ ok) × HoldsCopy sketch new) × OnRefused result ((result ≡ refusal_number NoMemory) × (new ≡ old))
IsCopiedFrom held old new result = (result ≡ wrong_kind) × (new ≡ old)

-- the same of the other handle's sketch, if any, which may be shared
abbrev pub IsCopied : Option HeldSketch → (old new : Option HeldSketch) → ℤ → Type 0
IsCopied None old new result = (result ≡ no_sketch) × (new ≡ old)
IsCopied (Some held) old new result = IsCopiedFrom (unshared held) old new result
