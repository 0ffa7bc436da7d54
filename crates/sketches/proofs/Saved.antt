-- Images that are written.
use Rattle.std.proofs.Common.{◌≡◌, ◌⊎◌, inl, inr, ⊎_elim, ℕ, ◌^◌, ◌≤◌, true, List, length, Option, ap, sym, subst}
use Rattle.std.proofs.lemmas.Bool.{cases_lt, lt-ltb}
use Rattle.std.proofs.lemmas.Str.{IsUtf8-string_bytes, is_utf8-from_IsUtf8}
use Rattle.std.specs.Global.{Global}
use Rattle.std.specs.Io.KnownBytes.{Appends}
use Rattle.std.specs.Prelude.{Err, nat_lt}
use Rattle.std.specs.Str.{is_utf8}
use Rattle.std.specs.String.{string_bytes}
use Rattle.std.specs.declared.string.String.{String}
use Rattle.sketch_base.specs.Errors.{ErrorValue}
use Rattle.sketch_base.specs.declared.fault.Fault.{Fault}
use Rattle.sketch_base.specs.declared.fault.Fault.TheVariants.{NoMemory}
use Rattle.sketch_frequencies.specs.Image.{IsImageWritingRefusal, IsSpelledFor, state_of_contents}
use Rattle.sketch_frequencies.specs.ItemLaws.{text_lawful}
use Rattle.sketch_frequencies.specs.Items.{text_codec, text_encoding}
use Rattle.sketch_frequencies.proofs.RoundTrips.{spelled_is_image}
use Rattle.sketches.specs.Added.{Sketch}
use Rattle.sketches.specs.Images.{WritesImage}
use Rattle.sketches.specs.SaveFailures.{IsNotSaved}
use Rattle.sketches.specs.declared.image.save.SaveFailure.{SaveFailure}
use Rattle.sketches.specs.declared.image.save.SaveFailure.TheVariants.{Memory, ItemTooLong}

pub image_written : (s : Sketch) (held holds : Option (List ℕ)) (image : List ℕ) → IsSpelledFor text_codec string_bytes image s → Appends held holds image → WritesImage s held holds
image_written s held holds image spelled wrote = record {
  image = image;
  spelled = spelled;
  wrote = wrote;
  items = λ size items has. record { sketch = s; image_of = spelled_is_image text_codec text_lawful image (state_of_contents string_bytes s) spelled; has = has };
}

-- a string that has no bytes in an image is too long
too_long : (string : String Global) (fault : Fault) → text_encoding (string_bytes string) ≡ Err fault → 2 ^ 32 ≤ length (string_bytes string)
too_long string fault none =
    let bytes = string_bytes string in
    let utf8 : is_utf8 bytes ≡ true = is_utf8-from_IsUtf8 bytes (IsUtf8-string_bytes string) in
    elim (cases_lt (length bytes) (2 ^ 32)) as (λ _. 2 ^ 32 ≤ length bytes) [
      | inl short ↦ let fits : nat_lt (length bytes) (2 ^ 32) ≡ true = lt-ltb _ _ short in cc
      | inr long ↦ long
    ]

pub not_saved : (s : Sketch) (e : ErrorValue) (failure : SaveFailure) → IsImageWritingRefusal text_codec string_bytes s.counters e → (e.fault ≡ NoMemory → failure ≡ Memory) → (failure ≡ Memory) ⊎ (failure ≡ ItemTooLong) → IsNotSaved s failure
not_saved s e failure refusal memory other =
    let out_of_memory : failure ≡ Memory → IsNotSaved s failure = λ is. subst (IsNotSaved s) (sym is) tt in
    ⊎_elim out_of_memory
    (λ long.
    ⊎_elim (λ none. out_of_memory (memory (ap (λ (v : ErrorValue). v.fault) none)))
    (λ bad. let (k, counter, there, at, none) = bad.1 in subst (IsNotSaved s) (sym long) (k, counter, there, at, too_long counter.0 e.fault none))
    refusal)
    other
