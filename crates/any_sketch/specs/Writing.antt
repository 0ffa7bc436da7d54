-- Images that sketches write.
use Rattle.std.specs.Prelude.{◌≡◌, ◌<◌, ◌≤◌, ◌^◌, ℕ, pos, Any, Err, IfErr, IfOk, IfSome, List, None, OnErr, Option, Result, drop, length, take}
use Rattle.std.specs.String.{string_bytes}
use Rattle.sketch_base.specs.Errors.{invalid_argument}
use Rattle.sketch_base.specs.declared.fault.Fault.TheVariants.{BadItem, ItemTooLong}
use Rattle.sketch_bloom.specs.Image as filters
use Rattle.sketch_countmin.specs.Image as counts
use Rattle.sketch_frequencies.specs.Image.{IsSpelledFor}
use Rattle.sketch_frequencies.specs.Items.{i64_codec, text_codec, u64_codec}
use Rattle.any_sketch.specs.Updates.{max_i64, max_u64, min_i64}
use Rattle.any_sketch.specs.declared.any_error.AnyError.{AnyError}
use Rattle.any_sketch.specs.declared.any_error.AnyError.TheVariants.{Sketch}
use Rattle.any_sketch.specs.declared.any_sketch.AnySketch.{AnySketch}
use Rattle.any_sketch.specs.declared.any_sketch.AnySketch.TheVariants.{Filter, CountI64, CountU64, FrequentI64, FrequentU64, FrequentStrings}

-- the bytes are an image of the sketch
abbrev pub IsImageOf : AnySketch → List ℕ → Type 0
IsImageOf (Filter s) image = filters.IsSpelled image s
IsImageOf (CountU64 s) image = counts.IsSpelled (pos 0) max_u64 image s
IsImageOf (CountI64 s) image = counts.IsSpelled min_i64 max_i64 image s
IsImageOf (FrequentU64 s) image = IsSpelledFor u64_codec (λ n. n) image s
IsImageOf (FrequentI64 s) image = IsSpelledFor i64_codec (λ n. n) image s
IsImageOf (FrequentStrings s) image = IsSpelledFor text_codec (λ item. string_bytes item) image s

-- Why a sketch of frequent items has no image: a string of 2^32 bytes or more, or a number outside the range of its type. No item is such
-- a number, so that never comes. Each other sketch has an image.
abbrev pub LacksImage : AnySketch → AnyError → Type 0
LacksImage (FrequentU64 s) error =
    (error ≡ Sketch (invalid_argument BadItem)) × Any (λ counter. u64_codec.encoding counter.0 ≡ Err BadItem) s.counters
LacksImage (FrequentI64 s) error =
    (error ≡ Sketch (invalid_argument BadItem)) × Any (λ counter. i64_codec.encoding counter.0 ≡ Err BadItem) s.counters
LacksImage (FrequentStrings s) error =
    (error ≡ Sketch (invalid_argument ItemTooLong)) × Any (λ counter. 2 ^ 32 ≤ length (string_bytes counter.0)) s.counters
LacksImage sketch error = ⊥

-- the length of the images, by the sizes of a filter or a Count-Min sketch
abbrev pub IsKnownSize : AnySketch → ℕ → Type 0
IsKnownSize (Filter s) n = n ≡ filters.image_bytes s
IsKnownSize (CountU64 s) n = n ≡ counts.image_bytes s
IsKnownSize (CountI64 s) n = n ≡ counts.image_bytes s
IsKnownSize sketch n = Unit {0}

-- there is an image, and each has this length
pub record IsSize (s : AnySketch) (n : ℕ) : Type 0 where
  pub some : (image : List ℕ) × IsImageOf s image × (length image ≡ n)
  pub each : (image : List ℕ) → IsImageOf s image → length image ≡ n
  pub known : IsKnownSize s n

-- the result is the length of the sketch's image, or says that it has none
pub record TellsSize (s : AnySketch) (result : Result ℕ AnyError) : Type 0 where
  pub size : IfOk result (IsSize s)
  pub lacks : IfErr result (LacksImage s)

-- so many bytes are too few for an image of the sketch
abbrev pub IsTooShort : AnySketch → ℕ → Type 0
IsTooShort (Filter s) room = room < filters.image_bytes s
IsTooShort (CountU64 s) room = room < counts.image_bytes s
IsTooShort (CountI64 s) room = room < counts.image_bytes s
IsTooShort s room = ((image : List ℕ) × IsImageOf s image) × ((image : List ℕ) → IsImageOf s image → room < length image)

-- An image was written to the front of the buffer, or the buffer is too short for it, or there is none. The rest of the buffer is
-- unchanged.
pub record WritesImage (s : AnySketch) (old new : List ℕ) (result : Result (Option ℕ) AnyError) : Type 0 where
  pub image : IfOk result (λ r. IfSome r (λ n. IsImageOf s (take n new)))
  pub fits : IfOk result (λ r. IfSome r (λ n. n ≤ length old))
  pub known : IfOk result (λ r. IfSome r (IsKnownSize s))
  pub rest : IfOk result (λ r. IfSome r (λ n. drop n new ≡ drop n old))
  pub short : IfOk result (λ r. r ≡ None → IsTooShort s (length old))
  pub none : IfOk result (λ r. r ≡ None → new ≡ old)
  pub lacks : IfErr result (LacksImage s)
  pub unchanged : OnErr result (new ≡ old)
