-- Images of frequent strings: how long a string is in one, and what is rejected.
use Rattle.std.proofs.Common.{◌≡◌, ℕ, ◌+◌, ◌^◌, ◌≤◌, Bool, true, false, cond, length, length-append, ltb, ap, arith, inl, inr, refl, sym, ◌∙◌}
use Rattle.std.specs.Int.{w32, to_le_bytes}
use Rattle.std.specs.Prelude.{nat_lt, ◌<◌, ◌++◌, Any, Err, IfErr, IfOk, IfSome, List, None, Ok, OnErr, Option, Result, Some, drop, take}
use Rattle.std.specs.Global.{Global}
use Rattle.std.specs.Str.{is_utf8}
use Rattle.std.specs.String.{string_bytes}
use Rattle.std.specs.declared.string.String.{String}
use Rattle.std.proofs.lemmas.Bool.{cases_lt, le-ltb, lt-ltb, ltb-true}
use Rattle.std.proofs.lemmas.Str.{IsUtf8-string_bytes, is_utf8-from_IsUtf8}
use Rattle.sketch_base.specs.Errors.{ErrorValue, invalid_argument}
use Rattle.sketch_base.specs.declared.fault.Fault.{Fault}
use Rattle.sketch_base.specs.declared.fault.Fault.TheVariants.{BadItem, ItemTooLong}
use Rattle.sketch_frequencies.specs.Image as frequent
use Rattle.sketch_frequencies.specs.Items.{IsWithin, text_codec, text_encoding}
use Rattle.sketch_frequencies.specs.State.{FrequentState}
use Rattle.any_sketch.specs.declared.any_error.AnyError.{AnyError}
use Rattle.any_sketch.specs.declared.any_error.AnyError.TheVariants.{Sketch}
use Rattle.any_sketch.specs.Writing.{TellsSize, WritesImage}
use Rattle.any_sketch.specs.declared.any_sketch.AnySketch.TheVariants.{FrequentStrings}

abbrev written : List ℕ → Result (List ℕ) Fault
written bytes = Ok bytes

-- the bytes of an item that passed two tests
written_if_both : (first second : Bool) (fault other : Fault) (whole bytes : List ℕ)
    → cond first (cond second (written whole) (Err fault)) (Err other) ≡ written bytes → (second ≡ true) × (whole ≡ bytes)
written_if_both true true fault other whole bytes e = (refl, cc)
written_if_both true false fault other whole bytes e = absurd cc
written_if_both false second fault other whole bytes e = absurd cc

-- a string takes few bytes
pub strings_short : IsWithin text_codec (2 ^ 33)
strings_short string bytes e =
    let whole = to_le_bytes w32 (length string) ++ string in
    let is = written_if_both (is_utf8 string) (ltb (length string) (2 ^ 32)) ItemTooLong BadItem whole bytes e in
    let short : length string < 2 ^ 32 = ltb-true _ _ is.0 in
    let long : 4 + length string ≡ length bytes = sym (length-append (to_le_bytes w32 (length string)) string) ∙ ap length is.1 in
    omega (arith, short, long)

-- a string that has no bytes in an image is too long
too_long : (string : String Global) (fault : Fault) → text_encoding (string_bytes string) ≡ Err fault → (fault ≡ ItemTooLong) × (2 ^ 32 ≤ length (string_bytes string))
too_long string fault none =
    let bytes = string_bytes string in
    let utf8 : is_utf8 bytes ≡ true = is_utf8-from_IsUtf8 bytes (IsUtf8-string_bytes string) in
    elim (cases_lt (length bytes) (2 ^ 32)) as (λ _. (fault ≡ ItemTooLong) × (2 ^ 32 ≤ length bytes)) [
      | inl short ↦ let fits : nat_lt (length bytes) (2 ^ 32) ≡ true = lt-ltb _ _ short in cc
      | inr long ↦ let over : nat_lt (length bytes) (2 ^ 32) ≡ false = le-ltb _ _ long in let is : fault ≡ ItemTooLong = cc in (is, long)
    ]

-- a string that cannot be written is too long
pub string_rejected : (s : FrequentState (String Global)) (any : AnyError)
    → (e : ErrorValue) × (any ≡ Sketch e) × frequent.IsItemFault text_codec (λ (item : String Global). string_bytes item) s.counters e
    → (any ≡ Sketch (invalid_argument ItemTooLong)) × Any (λ (counter : String Global × ℕ). 2 ^ 32 ≤ length (string_bytes counter.0)) s.counters
string_rejected s any (e, sketch, (is, (k, counter, there, at, none))) =
    let why = too_long counter.0 e.fault none in
    (sketch ∙ ap Sketch (is ∙ ap invalid_argument why.0), (k, counter, there, at, why.1))

abbrev Strings : Type 0
Strings = FrequentState (String Global)

abbrev Spelled : Strings → List ℕ → Type 0
Spelled s image = frequent.IsSpelledFor text_codec (λ (item : String Global). string_bytes item) image s

abbrev Rejected : Strings → AnyError → Type 0
Rejected s any = (e : ErrorValue) × (any ≡ Sketch e) × frequent.IsItemFault text_codec (λ (item : String Global). string_bytes item) s.counters e

-- what is told of the length of their images
pub strings_size : (s : Strings) (result : Result ℕ AnyError)
    → IfOk result (λ n. (image : List ℕ) × Spelled s image × (length image ≡ n))
    → IfOk result (λ n. (image : List ℕ) → Spelled s image → length image ≡ n) → IfErr result (Rejected s)
    → TellsSize (FrequentStrings s) result
strings_size s (Ok n) some each lacks = record { size = record { some = some; each = each; known = tt }; lacks = tt }
strings_size s (Err any) some each lacks = record { size = tt; lacks = string_rejected s any lacks }

-- no length is known beforehand
any_length : (found : Option ℕ) → IfSome found (λ n. Unit {0})
any_length (Some n) = tt
any_length None = tt

-- how their images are written
pub strings_written : (s : Strings) (old new : List ℕ) (result : Result (Option ℕ) AnyError)
    → IfOk result (λ r. IfSome r (λ n. Spelled s (take n new))) → IfOk result (λ r. IfSome r (λ n. n ≤ length old))
    → IfOk result (λ r. IfSome r (λ n. drop n new ≡ drop n old))
    → IfOk result (λ r. r ≡ None → (image : List ℕ) × Spelled s image)
    → IfOk result (λ r. r ≡ None → (image : List ℕ) → Spelled s image → length old < length image)
    → IfOk result (λ r. r ≡ None → new ≡ old) → IfErr result (Rejected s) → OnErr result (new ≡ old)
    → WritesImage (FrequentStrings s) old new result
strings_written s old new (Ok found) image fits rest some short none lacks unchanged = record {
  image = image;
  fits = fits;
  known = any_length found;
  rest = rest;
  short = λ is. (some is, short is);
  none = none;
  lacks = tt;
  unchanged = tt;
}
strings_written s old new (Err any) image fits rest some short none lacks unchanged = record {
  image = tt;
  fits = tt;
  known = tt;
  rest = tt;
  short = tt;
  none = tt;
  lacks = string_rejected s any lacks;
  unchanged = unchanged;
}
