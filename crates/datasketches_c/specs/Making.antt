-- Results and effects of putting new sketches into handles.
use Rattle.std.specs.Prelude.{◌≡◌, ℤ, IfErr, IfOk, Option, Some, None, Result, Err}
use Rattle.counter_table.specs.declared.table_key.TableKey.TheVariants.{Keyed}
use Rattle.sketch_base.specs.declared.fault.Fault.TheVariants.{NoMemory}
use Rattle.any_sketch.specs.Making.{Makes}
use Rattle.any_sketch.specs.declared.any_error.AnyError.{AnyError}
use Rattle.any_sketch.specs.declared.any_sketch.AnySketch.{AnySketch}
use Rattle.any_sketch.specs.declared.kind.Kind.{Kind}
use Rattle.any_sketch.specs.declared.sketch_sizes.SketchSizes.{SketchSizes}
use Rattle.datasketches_c.specs.Calls.{code_of}
use Rattle.datasketches_c.specs.Numbers.{OnDone, OnRefused, ok, refusal_number, wrong_kind}
use Rattle.datasketches_c.specs.declared.held_sketch.HeldSketch.{HeldSketch}
use Rattle.datasketches_c.specs.declared.held_sketch.HeldSketch.TheVariants.{Own}
use Rattle.datasketches_c.specs.declared.making.SizesArgument.{SizesArgument}

-- the sizes of an argument
abbrev pub sizes_in : SizesArgument → SketchSizes
sizes_in a = record {
  num_bits = a.num_bits;
  num_hashes = a.num_hashes;
  num_buckets = a.num_buckets;
  seed = a.seed;
  max_map_size = a.max_map_size;
  sample_size = a.sample_size;
  key = Keyed (a.k0, a.k1);
}

-- The handle holds the sketch for itself. Or memory was exhausted, and the handle is unchanged.
abbrev pub IsHeld : AnySketch → (old new : Option HeldSketch) → ℤ → Type 0
IsHeld s old new result =
    OnDone result ((result ≡ ok) × (new ≡ Some (Own s))) × OnRefused result ((result ≡ refusal_number NoMemory) × (new ≡ old))

-- the sketch that was made was put into the handle. If none was, the result is the error's number, and the handle is unchanged
pub record IsPut (old new : Option HeldSketch) (result : ℤ) (made : Result AnySketch AnyError) : Type 0 where
  pub put : IfOk made (λ s. IsHeld s old new result)
  pub refused : IfErr made (λ e. (result ≡ code_of {A = Unit {0}} (λ _. ok) (Err e)) × (new ≡ old))

-- the same of what a call made of which the statement holds
pub record IsMade (said : Result AnySketch AnyError → Type 0) (old new : Option HeldSketch) (result : ℤ) : Type 0 where
  pub made : Result AnySketch AnyError
  pub holds : said made
  pub put : IsPut old new result made

-- a new sketch of this kind and these sizes was put into the handle, or there is no such kind
abbrev pub IsMadeOf : Option Kind → SketchSizes → (old new : Option HeldSketch) → ℤ → Type 0
IsMadeOf (Some kind) sizes old new result = IsMade (Makes kind sizes) old new result
IsMadeOf None sizes old new result = (result ≡ wrong_kind) × (new ≡ old)
