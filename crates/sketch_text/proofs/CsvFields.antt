-- The fields of a record of CSV, one after another.
use Rattle.std.proofs.Common.{◌≡◌, ℕ, zero, suc, ◌+◌, ◌<◌, ◌≤◌, Bool, true, false, not, cond, eqb, List, [], ◌∷◌, ◌++◌, length, get_or, take, drop, refl, sym, ◌∙◌, ap, subst, arith, length-drop, ⊎_elim, append_assoc}
use Rattle.std.specs.List.{All, position_or_len}
use Rattle.std.proofs.lemmas.Bool.{cases_lt}
use Rattle.std.specs.Prelude.{◌&&◌}
use Rattle.std.proofs.lemmas.List.Elements.{All-head, All-tail}
use Rattle.std.proofs.lemmas.List.{take_all, drop_more, drop_all, drop-drop}
use Rattle.std.proofs.lemmas.List.Sums.{passes_at_first}
use Rattle.sketch_text.specs.Csv.{begins_with_quote, after_byte, after_bytes, cuts, added_at, csv_fields, in_quotes, text_from, text_of_field, split_unquoted, IsOnePart, IsFieldEnd}
use Rattle.sketch_text.specs.declared.place.Place.{Place}
use Rattle.sketch_text.specs.declared.place.Place.TheVariants.{Start, Bare, Quoted, Closed}
use Rattle.sketch_text.proofs.CsvRuns.{split_one, split_first, none_pass, bare_after, bare_one}
use Rattle.sketch_text.proofs.CsvRecords.{through}

abbrev pub is_delimiter : ℕ → ℕ → Bool
is_delimiter d byte = eqb byte d

-- the parts between delimiters
abbrev pub parts_of : ℕ → List ℕ → List (List ℕ)
parts_of d bytes = split_unquoted (is_delimiter d) (is_delimiter d) Start bytes

pub some_fields : (d : ℕ) (row : List ℕ) → 0 < length row → csv_fields d row ≡ parts_of d row
some_fields d [] some = absurd (omega (arith, some))
some_fields d (x ∷ xs) some = refl

-- ---- a field without quotes around it

same_test : (d x : ℕ) → is_delimiter d x ≡ true → is_delimiter d x ≡ true
same_test d x e = e

bare_start : (d x : ℕ) (xs : List ℕ) → eqb x 34 ≡ false → is_delimiter d x ≡ false → after_bytes (is_delimiter d) Start (x ∷ xs) ≡ after_bytes (is_delimiter d) Bare xs
bare_start d x xs unquoted none =
    ap (λ (q : Bool). after_bytes (is_delimiter d) (cond q Quoted (cond (is_delimiter d x) Start Bare)) xs) unquoted
    ∙ ap (λ (b : Bool). after_bytes (is_delimiter d) (cond b Start Bare) xs) none

pub bare_front : (d : ℕ) (xs : List ℕ) → begins_with_quote xs ≡ false → All (λ x. is_delimiter d x ≡ false) xs → IsOnePart (is_delimiter d) (is_delimiter d) Start xs × (in_quotes (after_bytes (is_delimiter d) Start xs) ≡ false)
bare_front d [] unquoted none = (tt, refl)
bare_front d (x ∷ xs) unquoted none =
    let here : is_delimiter d x ≡ false = All-head (λ y. is_delimiter d y ≡ false) x xs none in
    let more : All (λ y. is_delimiter d y ≡ false) xs = All-tail (λ y. is_delimiter d y ≡ false) x xs none in
    let first : eqb x 34 ≡ false = unquoted in (
      (
        here,
        subst (λ (q : Bool). IsOnePart (is_delimiter d) (is_delimiter d) (cond q Quoted (cond (is_delimiter d x) Start Bare)) xs) (sym first)
            (subst (λ (b : Bool). IsOnePart (is_delimiter d) (is_delimiter d) (cond b Start Bare) xs) (sym here) (bare_one (is_delimiter d) (is_delimiter d) (same_test d) xs more)),
      ),
      ap in_quotes (bare_start d x xs first here ∙ bare_after (is_delimiter d) xs more),
    )

begins_taken : (at : ℕ) (bytes : List ℕ) → begins_with_quote bytes ≡ false → begins_with_quote (take at bytes) ≡ false
begins_taken zero bytes e = refl
begins_taken (suc at) [] e = refl
begins_taken (suc at) (x ∷ xs) e = e

pub bare_end : (d : ℕ) (bytes : List ℕ) (at : ℕ) → at ≡ position_or_len (is_delimiter d) bytes → begins_with_quote bytes ≡ false → IsFieldEnd d bytes at
bare_end d bytes at e unquoted =
    let none : All (λ x. is_delimiter d x ≡ false) (take at bytes) = rw e (none_pass (is_delimiter d) bytes) in
    let (one, out) = bare_front d (take at bytes) (begins_taken at bytes unquoted) none in
    (one, λ less. ap (λ (b : Bool). not b && is_delimiter d (get_or bytes at 0)) out ∙ rw e (passes_at_first (is_delimiter d) bytes 0 (omega (arith, less, e))))

-- ---- one field after another

-- a delimiter is at the index
pub first_part : (d : ℕ) (bytes item after later : List ℕ) (at : ℕ) → IsFieldEnd d bytes at → item ≡ take at bytes → after ≡ drop at bytes → later ≡ drop 1 after → 0 < length after → parts_of d bytes ≡ item ∷ parts_of d later
first_part d bytes item after later at end i a l some =
    let less : at < length bytes = omega (arith, some, ap length a, length-drop at bytes) in
    let cut : cuts (is_delimiter d) (after_bytes (is_delimiter d) Start (take at bytes)) (get_or bytes at 0) ≡ true = end.1 less in
    let rest : later ≡ drop (at + 1) bytes = l ∙ (ap (drop 1) a ∙ drop-drop 1 at bytes) in
    ap (parts_of d) (through bytes at less)
    ∙ (split_first (is_delimiter d) (is_delimiter d) Start (take at bytes) (get_or bytes at 0) (drop (at + 1) bytes) end.0 cut
    ∙ (ap (λ (x : List ℕ). x ∷ parts_of d (drop (at + 1) bytes)) (sym i) ∙ ap (λ (x : List ℕ). item ∷ parts_of d x) (sym rest)))

-- there is none
pub last_part : (d : ℕ) (bytes after : List ℕ) (at : ℕ) → IsFieldEnd d bytes at → after ≡ drop at bytes → length after ≡ 0 → parts_of d bytes ≡ bytes ∷ []
last_part d bytes after at end a none =
    let whole : take at bytes ≡ bytes = take_all at bytes (omega (arith, none, ap length a, length-drop at bytes)) in
    split_one (is_delimiter d) (is_delimiter d) Start bytes (subst (IsOnePart (is_delimiter d) (is_delimiter d) Start) whole end.0)

-- the first part that is left
pub part_at_first : (d : ℕ) (bytes item : List ℕ) (at : ℕ) → IsFieldEnd d bytes at → item ≡ take at bytes → take 1 (parts_of d bytes) ≡ item ∷ []
part_at_first d bytes item at end i = ⊎_elim
    (λ less. ap (take 1) (first_part d bytes item (drop at bytes) (drop 1 (drop at bytes)) at end i refl refl (omega (arith, length-drop at bytes, less))))
    (λ ge.
    ap (take 1) (last_part d bytes (drop at bytes) at end refl (omega (arith, length-drop at bytes, ge)))
    ∙ ap (λ (x : List ℕ). x ∷ []) (sym (i ∙ take_all at bytes ge)))
    (cases_lt at (length bytes))

-- ---- the text of a field

text_bare : (xs : List ℕ) → text_from Bare xs ≡ xs
text_bare [] = refl
text_bare (x ∷ xs) = ap (λ l. x ∷ l) (text_bare xs)

-- without quotes around it
pub text_unquoted : (field : List ℕ) → begins_with_quote field ≡ false → field ≡ text_of_field field
text_unquoted [] e = refl
text_unquoted (x ∷ xs) e =
    sym (ap (λ (b : Bool). cond b [] (x ∷ []) ++ text_from (cond b Quoted Bare) xs) e ∙ ap (λ l. x ∷ l) (text_bare xs))

text_quoted : (xs : List ℕ) → All (λ x. eqb x 34 ≡ false) xs → text_from Quoted xs ≡ xs
text_quoted [] none = refl
text_quoted (x ∷ xs) none =
    ap (λ (b : Bool). cond b [] (x ∷ []) ++ text_from (cond b Closed Quoted) xs) (All-head (λ y. eqb y 34 ≡ false) x xs none)
    ∙ ap (λ l. x ∷ l) (text_quoted xs (All-tail (λ y. eqb y 34 ≡ false) x xs none))

-- up to the closing quote
text_closed : (xs : List ℕ) (y : ℕ) → All (λ x. eqb x 34 ≡ false) xs → eqb y 34 ≡ true → text_from Quoted (xs ++ y ∷ []) ≡ xs
text_closed [] y none e = ap (λ (b : Bool). cond b [] (y ∷ []) ++ text_from (cond b Closed Quoted) []) e
text_closed (x ∷ xs) y none e =
    ap (λ (b : Bool). cond b [] (x ∷ []) ++ text_from (cond b Closed Quoted) (xs ++ y ∷ [])) (All-head (λ z. eqb z 34 ≡ false) x xs none)
    ∙ ap (λ l. x ∷ l) (text_closed xs y (All-tail (λ z. eqb z 34 ≡ false) x xs none) e)

quote_first : (field inner : List ℕ) → begins_with_quote field ≡ true → inner ≡ drop 1 field → text_of_field field ≡ text_from Quoted inner
quote_first [] inner e i = cc
quote_first (x ∷ xs) inner e i = ap (λ (b : Bool). cond b [] (x ∷ []) ++ text_from (cond b Quoted Bare) xs) e ∙ ap (text_from Quoted) (sym i)

-- in quotes, without a quote for two
pub text_in_quotes : (field inner text : List ℕ) (at : ℕ) → begins_with_quote field ≡ true → inner ≡ drop 1 field → at ≡ position_or_len (λ x. eqb x 34) inner → length inner ≤ at + 1 → text ≡ take at inner → text ≡ text_of_field field
text_in_quotes field inner text at e i found le t =
    let none : All (λ x. eqb x 34 ≡ false) (take at inner) = rw found (none_pass (λ x. eqb x 34) inner) in
    t ∙ sym (quote_first field inner e i ∙ ⊎_elim
    (λ less.
    let quoted : eqb (get_or inner at 0) 34 ≡ true = rw found (passes_at_first (λ x. eqb x 34) inner 0 (omega (arith, less, found))) in
    ap (text_from Quoted) (through inner at less ∙ ap (λ l. take at inner ++ get_or inner at 0 ∷ l) (drop_all (at + 1) inner le))
    ∙ text_closed (take at inner) (get_or inner at 0) none quoted)
    (λ ge.
    let whole : take at inner ≡ inner = take_all at inner ge in
    ap (text_from Quoted) (sym whole) ∙ text_quoted (take at inner) none)
    (cases_lt at (length inner)))

-- one byte more of a text
pub text_more : (held text field : List ℕ) (at : ℕ) (place : Place) → at < length field → held ++ text_of_field field ≡ text ++ text_from place (drop at field) →
    held ++ text_of_field field ≡ (text ++ added_at place (get_or field at 0)) ++ text_from (after_byte false place (get_or field at 0)) (drop (at + 1) field)
text_more held text field at place less e =
    e ∙ (ap (λ l. text ++ text_from place l) (drop_more field at 0 less)
    ∙ sym (append_assoc text (added_at place (get_or field at 0)) (text_from (after_byte false place (get_or field at 0)) (drop (at + 1) field))))
