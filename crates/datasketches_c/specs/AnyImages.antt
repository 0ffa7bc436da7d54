-- Results of writing and reading the image of a sketch of any kind.
use Rattle.std.specs.Prelude.{◌≡◌, ◌≤◌, ◌⊎◌, ℕ, ℤ, IfOk, IfSome, List, OnErr, Option, Some, None, Result, length}
use Rattle.sketch_base.specs.declared.fault.Fault.{Fault}
use Rattle.sketch_base.specs.declared.fault.Fault.TheVariants.{NoMemory}
use Rattle.any_sketch.specs.Reading.{IsRead, early_fault, first_fault}
use Rattle.any_sketch.specs.Writing.{IsSize, WritesImage}
use Rattle.any_sketch.specs.declared.any_error.AnyError.{AnyError}
use Rattle.any_sketch.specs.declared.any_sketch.AnySketch.{AnySketch}
use Rattle.any_sketch.specs.declared.image_options.ImageOptions.{ImageOptions}
use Rattle.any_sketch.specs.declared.kind.Kind.{Kind}
use Rattle.datasketches_c.specs.Calls.{code_of}
use Rattle.datasketches_c.specs.Numbers.{no_room, ok, refusal_number, wrong_kind}
use Rattle.datasketches_c.specs.declared.held_sketch.HeldSketch.{HeldSketch}
use Rattle.datasketches_c.specs.declared.held_sketch.HeldSketch.TheVariants.{Own}

-- the result of a call that writes an image, or has no room for it
abbrev pub written_or_no_room : Option ℕ → ℤ
written_or_no_room (Some n) = ok
written_or_no_room None = no_room

-- The image was written to the front of the buffer, and its length to `counted`. If there is no room for it, only its length was written. If
-- there is no image, nothing was.
pub record WritesImageOf (s : AnySketch) (old new : List ℕ) (count_old count_new : ℕ) (result : ℤ) : Type 0 where
  pub answer : Result (Option ℕ) AnyError
  pub writes : WritesImage s old new answer
  pub number : result ≡ code_of written_or_no_room answer
  pub counted : IfOk answer (λ r. IfSome r (λ n. count_new ≡ n))
  pub needed : IfOk answer (λ r. r ≡ None → IsSize s count_new)
  pub uncounted : OnErr answer (count_new ≡ count_old)

-- the handle holds the sketch of this kind that was read from the front of the image, of which it took `used` bytes
abbrev pub HoldsRead : Option Kind → (image : List ℕ) → ImageOptions → (used : ℕ) → Option HeldSketch → Type 0
HoldsRead (Some kind) image options used (Some (Own sketch)) = IsRead kind image options sketch used × (used ≤ length image)
HoldsRead kind image options used held = ⊥

-- the image is rejected with its first fault, or with `NoMemory` if no check before the allocation fails
abbrev pub IsRefusedImage : (before whole : Option Fault) → ℤ → Type 0
IsRefusedImage before whole result =
    ((result ≡ refusal_number NoMemory) × (before ≡ None))
    ⊎ ((fault : Fault) × (whole ≡ Some fault) × (result ≡ refusal_number fault))

-- the image is rejected as one of this kind, or there is no such kind
abbrev pub IsRefusedRead : Option Kind → (image : List ℕ) → ImageOptions → ℤ → Type 0
IsRefusedRead (Some kind) image options result = IsRefusedImage (early_fault kind image options) (first_fault kind image options) result
IsRefusedRead None image options result = result ≡ wrong_kind
