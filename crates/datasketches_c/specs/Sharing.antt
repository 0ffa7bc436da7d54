-- Sketches that several handles share.
use Rattle.std.specs.Prelude.{◌≡◌, ◌⊎◌, Bool, true, false, Option, Some, None, ℤ, if◌then◌else◌}
use Rattle.std.specs.Arc.{arc_value}
use Rattle.sketch_base.specs.declared.fault.Fault.TheVariants.{NoMemory}
use Rattle.datasketches_c.specs.Numbers.{OnDone, OnRefused, no, no_sketch, not_shared, ok, refusal_number, shared, wrong_kind, yes}
use Rattle.datasketches_c.specs.declared.held_sketch.HeldSketch.{HeldSketch}
use Rattle.datasketches_c.specs.declared.held_sketch.HeldSketch.TheVariants.{Moved, Own, Shared}

-- the sketch as one that is not shared
abbrev pub unshared : HeldSketch → HeldSketch
unshared (Own sketch) = Own sketch
unshared (Shared arc) = Own (arc_value arc)
unshared Moved = Moved

abbrev pub is_shared : HeldSketch → Bool
is_shared (Shared arc) = true
is_shared held = false

-- the sketch of a kind, shared or not, where `part` gives one that is not shared
abbrev pub reads : {S : Type 0} → (HeldSketch → Option S) → HeldSketch → Option S
reads part held = part (unshared held)

-- the error of a call that cannot read the sketch: it is of another kind
abbrev pub unreadable : HeldSketch → ℤ
unreadable held = wrong_kind

-- the error of a call that cannot change the sketch: it is shared, or else of another kind
abbrev pub unchangeable : HeldSketch → ℤ
unchangeable held = if is_shared held then shared else wrong_kind

-- new holds the sketch of old, and shares it
abbrev pub IsShareOf : Option HeldSketch → Option HeldSketch → Type 0
IsShareOf (Some held) (Some share) = (unshared share ≡ unshared held) × (is_shared share ≡ true)
IsShareOf held share = ⊥

-- the sketch is shared
abbrev pub HoldsShared : Option HeldSketch → Type 0
HoldsShared (Some held) = is_shared held ≡ true
HoldsShared None = ⊥

-- The sketch is shared, or was before. Or memory was exhausted for one that is not shared yet, or a call is moving it, and it is unchanged.
pub record Freezes (old new : HeldSketch) (result : ℤ) : Type 0 where
  pub done : OnDone result ((result ≡ ok) × (unshared new ≡ unshared old) × (is_shared new ≡ true))
  pub refused :
      OnRefused result ((new ≡ old)
      × (((result ≡ wrong_kind) × (old ≡ Moved)) ⊎ ((result ≡ refusal_number NoMemory) × (is_shared old ≡ false))))

-- the sketch is no longer shared, or another handle shares it, and it is unchanged
abbrev pub Thaws : (old new : HeldSketch) → ℤ → Type 0
Thaws old new result =
    ((result ≡ yes) × (unshared new ≡ unshared old) × (is_shared new ≡ false))
    ⊎ ((result ≡ no) × (new ≡ old) × (is_shared old ≡ true))

-- the same of the handle's sketch, if any
abbrev pub FreezesSketch : (old new : Option HeldSketch) → ℤ → Type 0
FreezesSketch (Some old) (Some new) result = Freezes old new result
FreezesSketch None new result = (result ≡ no_sketch) × (new ≡ None)
FreezesSketch (Some old) None result = ⊥

abbrev pub ThawsSketch : (old new : Option HeldSketch) → ℤ → Type 0
ThawsSketch (Some old) (Some new) result = Thaws old new result
ThawsSketch None new result = (result ≡ no_sketch) × (new ≡ None)
ThawsSketch (Some old) None result = ⊥

-- why a sketch is not shared: there is none, it is not frozen, or there was no memory for one more handle
abbrev pub IsShareRefusal : Option HeldSketch → ℤ → Type 0
IsShareRefusal None result = result ≡ no_sketch
IsShareRefusal (Some held) result =
    ((result ≡ not_shared) × (is_shared held ≡ false)) ⊎ ((result ≡ refusal_number NoMemory) × (is_shared held ≡ true))
