-- Calls that combine the sketch of a handle with another's, or compare two.
use Rattle.std.specs.Ordering.{int_eq}
use Rattle.std.specs.Prelude.{◌≡◌, ℤ, pos, Bool, true, false, Option, Some, None, Result, if◌then◌else◌}
use Rattle.any_sketch.specs.Joins.{Compares, Intersects, Merges, Subtracts}
use Rattle.any_sketch.specs.declared.any_error.AnyError.{AnyError}
use Rattle.any_sketch.specs.declared.any_sketch.AnySketch.{AnySketch}
use Rattle.any_sketch.specs.declared.any_sketch.AnySketch.TheVariants.{Filter, CountI64, CountU64}
use Rattle.datasketches_c.specs.Calls.{ChangesSketch, IfHasCall, IsAnswer, IsDone, ReadsSketch, WithOther}
use Rattle.datasketches_c.specs.Numbers.{bad_argument}
use Rattle.datasketches_c.specs.declared.held_sketch.HeldSketch.{HeldSketch}
use Rattle.datasketches_c.specs.declared.joins.Join.{Join}
use Rattle.datasketches_c.specs.declared.joins.Join.TheVariants.{Merge, Intersection, Difference}

-- what a sketch becomes that is combined with another
abbrev pub Combines : Join → (old other new : AnySketch) → Result (Unit {0}) AnyError → Type 0
Combines Merge = Merges
Combines Intersection = Intersects
Combines Difference = Subtracts

abbrev pub is_filter : AnySketch → Bool
is_filter (Filter s) = true
is_filter sketch = false

-- sketches of all kinds are merged, and filters alone are intersected and subtracted
abbrev pub has_join : Join → AnySketch → Bool
has_join Merge sketch = true
has_join join sketch = is_filter sketch

-- the sketches of these kinds are compared
abbrev pub has_comparison : AnySketch → Bool
has_comparison (Filter s) = true
has_comparison (CountI64 s) = true
has_comparison (CountU64 s) = true
has_comparison sketch = false

-- new is old combined with the sketch of the other handle
abbrev pub CombinesOwn : Join → (other : Option HeldSketch) → ℤ → (old new : AnySketch) → Type 0
CombinesOwn join other result s t =
    IfHasCall (has_join join s) result (t ≡ s) (WithOther other result (t ≡ s) (λ o. IsDone result (Combines join s o t)))

-- the same of the sketch of a handle
abbrev pub JoinsOther : Join → (old new : Option HeldSketch) → (other : Option HeldSketch) → ℤ → Type 0
JoinsOther join old new other result = ChangesSketch old new result (CombinesOwn join other result)

-- how sketches are combined that one of C's `DS_JOIN_MERGE` .. names, if it is one of them
abbrev pub join_numbered : ℤ → Option Join
join_numbered join =
    if int_eq join (pos 1) then Some Merge else if int_eq join (pos 2) then Some Intersection
    else if int_eq join (pos 3) then Some Difference else None

-- new is old combined so with the sketch of the other handle. If nothing is named so, the result is `bad_argument`
abbrev pub JoinsNumbered : Option Join → (old new : Option HeldSketch) → (other : Option HeldSketch) → ℤ → Type 0
JoinsNumbered None old new other result = (result ≡ bad_argument) × (new ≡ old)
JoinsNumbered (Some join) old new other result = JoinsOther join old new other result

-- the result compares the sketch with that of the other handle
abbrev pub ComparesOwn : (other : Option HeldSketch) → ℤ → AnySketch → Type 0
ComparesOwn other result s =
    IfHasCall (has_comparison s) result (Unit {0}) (WithOther other result (Unit {0}) (λ o. IsAnswer result (Compares s o)))

-- the same of the sketches of two handles
abbrev pub ComparesOther : Option HeldSketch → (other : Option HeldSketch) → ℤ → Type 0
ComparesOther handle other result = ReadsSketch handle result (ComparesOwn other result)
