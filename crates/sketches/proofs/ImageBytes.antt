-- The bytes of an image that is read under a limit.
use Rattle.std.proofs.Common.{◌≡◌, ◌⊎◌, ⊎_elim, ℕ, ◌<◌, ◌≤◌, List, [], ◌++◌, length, take, min, Option, None, Some, option_map, subst, sym, ap, ◌∙◌, arith}
use Rattle.std.proofs.lemmas.List.{take_all, length-take}
use Rattle.std.specs.Option.{IfSome}
use Rattle.sketch_base.specs.Checks.{IsImageRefusal}
use Rattle.sketch_base.specs.Errors.{ErrorValue}
use Rattle.sketch_base.specs.declared.fault.Fault.{Fault}
use Rattle.sketch_base.specs.declared.fault.Fault.TheVariants.{NoMemory}
use Rattle.any_sketch.specs.declared.any_sketch.AnySketch.{AnySketch}
use Rattle.any_sketch.specs.declared.image_options.ImageOptions.{ImageOptions}
use Rattle.sketches.specs.ImageFailures.{IsBadImage, fault_within}
use Rattle.sketches.specs.Shown.{IsImageFor, States, kind_in, sketch_text}
use Rattle.sketches.specs.declared.image.images.ImageFailure.{ImageFailure}
use Rattle.sketches.specs.declared.image.images.ImageFailure.TheVariants.{Memory, Rejected}

-- fewer bytes than may be read are all bytes
pub read_whole : (known : Option (List ℕ)) (cut : ℕ) (old new : List ℕ) → IfSome (option_map (take cut) known) (λ front. new ≡ old ++ front) → old ≡ [] → length new < cut → IfSome known (λ image. new ≡ image)
read_whole None cut old new read none few = tt
read_whole (Some image) cut old new read none few =
    let front : new ≡ take cut image = read ∙ ap (λ l. l ++ take cut image) none in
    let len : length new ≡ min cut (length image) = ap (λ (l : List ℕ). length l) front ∙ length-take cut image in
    front ∙ take_all cut image (omega (arith, len, few))

-- the reader of sketches rejects the image
pub rejected : (limit : ℕ) (image : List ℕ) (early : Option Fault) (e : ErrorValue) (failure : ImageFailure) → IsImageRefusal early (fault_within limit image) e → (e.fault ≡ NoMemory → failure ≡ Memory) → (failure ≡ Memory) ⊎ (failure ≡ Rejected e.fault) → IsBadImage limit image failure
rejected limit image early e failure refusal memory other =
    let out_of_memory : failure ≡ Memory → IsBadImage limit image failure = λ is. subst (IsBadImage limit image) (sym is) tt in
    ⊎_elim out_of_memory
    (λ fault. ⊎_elim (λ none. out_of_memory (memory (ap (λ (v : ErrorValue). v.fault) none.0))) (λ bad. subst (IsBadImage limit image) (sym fault) bad.1) refusal)
    other

-- the lines are those of the image that was read
pub states : (options : ImageOptions) (image bytes slice : List ℕ) (sketch : AnySketch) (text : List ℕ) → bytes ≡ image → length bytes ≤ options.max_bytes → slice ≡ bytes → IsImageFor (kind_in slice) options slice sketch → text ≡ sketch_text sketch → States options image text
states options image bytes slice sketch text read fits same is lines = record {
  sketch = sketch;
  fits = subst (λ (l : List ℕ). length l ≤ options.max_bytes) read fits;
  image_of = subst (λ (l : List ℕ). IsImageFor (kind_in l) options l sketch) (same ∙ read) is;
  lines = lines;
}
