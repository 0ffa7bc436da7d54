-- The text of records of several inputs, of which the last of an input may have no end.
use Rattle.std.proofs.Common.{◌≡◌, ℕ, ◌-◌, Bool, not, List, [], ◌∷◌, ◌++◌, length, take, append_assoc, Option, refl, sym, ◌∙◌, ap, subst}
use Rattle.std.specs.Io.KnownBytes.{Appends}
use Rattle.std.specs.Prelude.{◌==◌, if◌then◌else◌, codes, slice_index}
use Rattle.std.specs.Str.Lines.{strip_carriage_return}
use Rattle.sketches.specs.Appending.{appends_none, appends_both}
use Rattle.sketches.specs.Json.{json_lossy}
use Rattle.sketches.specs.declared.print.ended_text.RecordForm.{RecordForm}
use Rattle.sketches.specs.declared.print.ended_text.RecordForm.TheVariants.{Plain, AfterFeed, Json}

-- whether a record has no line feed at its end
abbrev pub is_unended : List ℕ → Bool
is_unended raw = not (slice_index raw (length raw - 1) == 10)

-- a record without the line feed at its end and a carriage return before it
abbrev pub without_end : List ℕ → List ℕ
without_end raw = if is_unended raw then raw else strip_carriage_return (take (length raw - 1) raw)

-- the text of one record: with its end, or as a JSON object in a line of its own
abbrev pub text_in : RecordForm → List ℕ → List ℕ
text_in Plain raw = raw
text_in AfterFeed raw = 10 ∷ raw
text_in Json raw = codes "{\"line\":\"" ++ json_lossy (without_end raw) ++ codes "\"}\n"

-- the form of the record after a record: one without a line feed at its end gets one before the next
abbrev pub plain_after : List ℕ → RecordForm
plain_after raw = if is_unended raw then AfterFeed else Plain

abbrev pub form_after : RecordForm → List ℕ → RecordForm
form_after Plain raw = plain_after raw
form_after AfterFeed raw = plain_after raw
form_after Json raw = Json

-- records one after another. `form` is that of the first
abbrev pub text_of : (form : RecordForm) → List (List ℕ) → List ℕ
text_of form [] = []
text_of form (raw ∷ raws) = text_in form raw ++ text_of (form_after form raw) raws

-- the form of a record after these
abbrev pub form_after_all : (form : RecordForm) → List (List ℕ) → RecordForm
form_after_all form [] = form
form_after_all form (raw ∷ raws) = form_after_all (form_after form raw) raws

-- the text of records was appended
abbrev pub Prints : (held holds : Option (List ℕ)) (form form' : RecordForm) → List (List ℕ) → Type 0
Prints held holds form form' raws = Appends held holds (text_of form raws) × (form' ≡ form_after_all form raws)

pub text_both : (form : RecordForm) (xs ys : List (List ℕ)) → text_of form (xs ++ ys) ≡ text_of form xs ++ text_of (form_after_all form xs) ys
text_both form [] ys = refl
text_both form (x ∷ xs) ys =
    ap (λ l. text_in form x ++ l) (text_both (form_after form x) xs ys)
    ∙ sym (append_assoc (text_in form x) (text_of (form_after form x) xs) (text_of (form_after_all (form_after form x) xs) ys))

pub form_both : (form : RecordForm) (xs ys : List (List ℕ)) → form_after_all form (xs ++ ys) ≡ form_after_all (form_after_all form xs) ys
form_both form [] ys = refl
form_both form (x ∷ xs) ys = form_both (form_after form x) xs ys

pub prints_none : (held : Option (List ℕ)) (form : RecordForm) → Prints held held form form []
prints_none held form = (appends_none held, refl)

pub prints_both : (a b c : Option (List ℕ)) (o p q : RecordForm) (xs ys : List (List ℕ)) → Prints a b o p xs → Prints b c p q ys → Prints a c o q (xs ++ ys)
prints_both a b c o p q xs ys (text, form) (text', form') = (
  subst (Appends a c) (ap (λ (r : RecordForm). text_of o xs ++ text_of r ys) form ∙ sym (text_both o xs ys)) (appends_both a b c _ _ text text'),
  form' ∙ (ap (λ (r : RecordForm). form_after_all r ys) form ∙ sym (form_both o xs ys)),
)
