-- Calls on sketches in the bytes of their images.
use Rattle.std.specs.Prelude.{◌≡◌, ℕ, ℤ, pos, Bool, List, Option, Some, None, IfErr, IfOk, OnOk, Result}
use Rattle.sketch_base.specs.Errors.{invalid_data}
use Rattle.sketch_base.specs.declared.fault.Fault.{Fault}
use Rattle.sketch_bloom.specs.Image as filter_image
use Rattle.sketch_bloom.specs.State.{contains_item}
use Rattle.sketch_countmin.specs.Image as count_image
use Rattle.sketch_countmin.specs.View.{view_at, view_fault}
use Rattle.any_sketch.specs.Estimates.{IsEstimate}
use Rattle.any_sketch.specs.Items.{ItemValue, fed_by}
use Rattle.any_sketch.specs.Updates.{max_i64, max_u64, min_i64}
use Rattle.any_sketch.specs.declared.any_error.AnyError.{AnyError}
use Rattle.any_sketch.specs.declared.any_error.AnyError.TheVariants.{Sketch}

-- The result tells of the sketch that the image shows, and so of each sketch that reading the image gives. If a check failed, it is the
-- first fault.
pub record TellsOfImage
    {S A : Type 0} (shown : S) (is_read : S → Type 0) (fault : Option Fault) (Says : S → A → Type 0) (result : Result A AnyError)
    : Type 0 where
  pub told : IfOk result (Says shown)
  pub reads : IfOk result (λ value. (sketch : S) → is_read sketch → Says sketch value)
  pub accepted : OnOk result (fault ≡ None)
  pub refused : IfErr result (λ any. (first : Fault) × (fault ≡ Some first) × (any ≡ Sketch (invalid_data first)))

-- the result tells whether the filter in an image contains the item. The count of its bits is not checked
abbrev pub TellsContainedInImage : List ℕ → ItemValue → Result Bool AnyError → Type 0
TellsContainedInImage image item =
    TellsOfImage (filter_image.value_at image) (filter_image.IsImage image) (filter_image.early_fault image)
    (λ s is. is ≡ contains_item s (fed_by item))

-- the result is the estimate of the item's weight by the Count-Min sketch in an image, whose seed this is. Its cells are not checked
abbrev pub EstimatesInImage : (seed : ℕ) → List ℕ → ItemValue → Result ℕ AnyError → Type 0
EstimatesInImage seed image item =
    TellsOfImage (view_at (pos 0) seed image) (count_image.IsImage (pos 0) max_u64 seed image) (view_fault (pos 0) max_u64 seed image)
    (λ s estimate. IsEstimate s (fed_by item) (pos estimate))

-- the same with weights in `i64`
abbrev pub EstimatesSignedInImage : (seed : ℕ) → List ℕ → ItemValue → Result ℤ AnyError → Type 0
EstimatesSignedInImage seed image item =
    TellsOfImage (view_at min_i64 seed image) (count_image.IsImage min_i64 max_i64 seed image) (view_fault min_i64 max_i64 seed image)
    (λ s. IsEstimate s (fed_by item))
