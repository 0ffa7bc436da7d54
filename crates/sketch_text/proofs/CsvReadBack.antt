-- The texts of columns of CSV, read back from an item.
use Rattle.std.proofs.Common.{◌≡◌, ℕ, ◌<◌, Bool, true, false, cond, eqb, List, [], ◌∷◌, ◌++◌, length, map, refl, sym, ◌∙◌, ap, subst, arith, append_assoc, length-append}
use Rattle.std.specs.Prelude.{◌||◌}
use Rattle.std.specs.List.{All, flat_map, join_with_byte, list_any}
use Rattle.std.proofs.lemmas.Bool.{eq-eqb, eqb-true, false≢true, ne_eqb}
use Rattle.std.proofs.lemmas.List.Elements.{All-cons, All-nil}
use Rattle.sketch_text.specs.Csv.{after_bytes, begins_with_quote, csv_fields, cuts, in_quotes, in_quotes_as, needs_quotes, spelled, text_from, text_of_field, IsOnePart}
use Rattle.sketch_text.specs.declared.place.Place.{Place}
use Rattle.sketch_text.specs.declared.place.Place.TheVariants.{Start, Bare, Quoted, Closed}
use Rattle.sketch_text.proofs.CsvRuns.{split_one, split_first}
use Rattle.sketch_text.proofs.CsvFields.{bare_front, is_delimiter, parts_of, some_fields, text_unquoted}

-- bytes are one field, from this place on, and have this text
abbrev Spells : (d : ℕ) → Place → List ℕ → List ℕ → Type 0
Spells d place bytes text =
    IsOnePart (is_delimiter d) (is_delimiter d) place bytes × (in_quotes (after_bytes (is_delimiter d) place bytes) ≡ false) × (text_from place bytes ≡ text)

either_false : (a b : Bool) → (a || b) ≡ false → (a ≡ false) × (b ≡ false)
either_false true b e = cc
either_false false b e = (refl, e)

-- ---- a text without quotes around it

plain_byte : (d x : ℕ) → needs_quotes d x ≡ false → (eqb x d ≡ false) × (eqb x 34 ≡ false)
plain_byte d x e =
    let (three, _) = either_false (eqb x d || eqb x 34 || eqb x 10) (eqb x 13) e in
    either_false (eqb x d) (eqb x 34) (either_false (eqb x d || eqb x 34) (eqb x 10) three).0

plain_bytes : (d : ℕ) (text : List ℕ) → list_any (needs_quotes d) text ≡ false → All (λ x. is_delimiter d x ≡ false) text
plain_bytes d [] e = All-nil (λ x. is_delimiter d x ≡ false)
plain_bytes d (x ∷ xs) e =
    let (here, later) = either_false (needs_quotes d x) (list_any (needs_quotes d) xs) e in
    All-cons (λ y. is_delimiter d y ≡ false) x xs (plain_byte d x here).0 (plain_bytes d xs later)

plain_first : (d : ℕ) (text : List ℕ) → list_any (needs_quotes d) text ≡ false → begins_with_quote text ≡ false
plain_first d [] e = refl
plain_first d (x ∷ xs) e = (plain_byte d x (either_false (needs_quotes d x) (list_any (needs_quotes d) xs) e).0).1

spells_bare : (d : ℕ) (text : List ℕ) → list_any (needs_quotes d) text ≡ false → Spells d Start text text
spells_bare d text e =
    let unquoted : begins_with_quote text ≡ false = plain_first d text e in
    let (one, out) = bare_front d text unquoted (plain_bytes d text e) in
    (one, out, sym (text_unquoted text unquoted))

-- ---- a text in quotes

module _ (d : ℕ) (other : is_delimiter d 34 ≡ false) where
  -- one byte more
  spells_more : (x : ℕ) (b : Bool) → eqb x 34 ≡ b → (bytes text : List ℕ) → Spells d Quoted bytes text → Spells d Quoted (cond b (34 ∷ 34 ∷ []) (x ∷ []) ++ bytes) (x ∷ text)
  spells_more x true e bytes text (one, out, is) = (
    (refl, (other, one)),
    out,
    ap (λ l. 34 ∷ l) is ∙ ap (λ y. y ∷ text) (sym (eqb-true x 34 e)),
  )
  spells_more x false e bytes text (one, out, is) = (
    (refl, subst (λ b. IsOnePart (is_delimiter d) (is_delimiter d) (cond b Closed Quoted) bytes) (sym e) one),
    ap (λ b. in_quotes (after_bytes (is_delimiter d) (cond b Closed Quoted) bytes)) e ∙ out,
    ap (λ b. cond b [] (x ∷ []) ++ text_from (cond b Closed Quoted) bytes) e ∙ ap (λ l. x ∷ l) is,
  )

  -- up to the closing quote
  spells_quoted : (text : List ℕ) → Spells d Quoted (flat_map in_quotes_as text ++ 34 ∷ []) text
  spells_quoted [] = ((refl, tt), refl, refl)
  spells_quoted (x ∷ xs) =
      subst (λ (l : List ℕ). Spells d Quoted l (x ∷ xs)) (sym (append_assoc (in_quotes_as x) (flat_map in_quotes_as xs) (34 ∷ [])))
      (spells_more x (eqb x 34) refl (flat_map in_quotes_as xs ++ 34 ∷ []) xs (spells_quoted xs))

  spells_in_quotes : (text : List ℕ) → Spells d Start (34 ∷ flat_map in_quotes_as text ++ 34 ∷ []) text
  spells_in_quotes text =
      let (one, out, is) = spells_quoted text in
      ((other, one), out, is)

  spells_by : (text : List ℕ) (b : Bool) → list_any (needs_quotes d) text ≡ b → Spells d Start (cond b (34 ∷ flat_map in_quotes_as text ++ 34 ∷ []) text) text
  spells_by text true e = spells_in_quotes text
  spells_by text false e = spells_bare d text e

  spells : (text : List ℕ) → Spells d Start (spelled d text) text
  spells text = spells_by text (list_any (needs_quotes d) text) refl

  -- ---- one field after another

  cuts_out : (place : Place) → in_quotes place ≡ false → cuts (is_delimiter d) place d ≡ true
  cuts_out Start out = eq-eqb d d refl
  cuts_out Bare out = eq-eqb d d refl
  cuts_out Quoted out = absurd (false≢true (sym out))
  cuts_out Closed out = eq-eqb d d refl

  parts_joined : (texts : List (List ℕ)) → 0 < length texts → parts_of d (join_with_byte d (map (spelled d) texts)) ≡ map (spelled d) texts
  parts_joined [] some = absurd (omega (arith, some))
  parts_joined (x ∷ []) some = split_one (is_delimiter d) (is_delimiter d) Start (spelled d x) (spells x).0
  parts_joined (x ∷ y ∷ more) some =
      let (one, out, is) = spells x in
      split_first (is_delimiter d) (is_delimiter d) Start (spelled d x) d (join_with_byte d (map (spelled d) (y ∷ more))) one
      (cuts_out (after_bytes (is_delimiter d) Start (spelled d x)) out)
      ∙ ap (λ l. spelled d x ∷ l) (parts_joined (y ∷ more) (omega arith))

  texts_back : (texts : List (List ℕ)) → map text_of_field (map (spelled d) texts) ≡ texts
  texts_back [] = refl
  texts_back (x ∷ xs) = ap (λ t. t ∷ map text_of_field (map (spelled d) xs)) (spells x).2 ∙ ap (λ l. x ∷ l) (texts_back xs)

  -- a text that is not empty has a spelling that is not empty
  some_spelled : (x : ℕ) (xs : List ℕ) (b : Bool) → 0 < length (cond b (34 ∷ flat_map in_quotes_as (x ∷ xs) ++ 34 ∷ []) (x ∷ xs))
  some_spelled x xs true = omega arith
  some_spelled x xs false = omega arith

  some_joined : (texts : List (List ℕ)) → 0 < length texts → (texts ≡ [] ∷ [] → ⊥) → 0 < length (join_with_byte d (map (spelled d) texts))
  some_joined [] some other = absurd (omega (arith, some))
  some_joined ([] ∷ []) some other = absurd (other refl)
  some_joined ((x ∷ xs) ∷ []) some other = some_spelled x xs (list_any (needs_quotes d) (x ∷ xs))
  some_joined (x ∷ y ∷ more) some other =
      let rest : List ℕ = d ∷ join_with_byte d (map (spelled d) (y ∷ more)) in
      omega (arith, length-append (spelled d x) rest)

  read_back : (texts : List (List ℕ)) → (texts ≡ [] ∷ [] → ⊥) → map text_of_field (csv_fields d (join_with_byte d (map (spelled d) texts))) ≡ texts
  read_back [] other = refl
  read_back (x ∷ xs) other =
      ap (map text_of_field) (some_fields d (join_with_byte d (map (spelled d) (x ∷ xs))) (some_joined (x ∷ xs) (omega arith) other) ∙ parts_joined (x ∷ xs) (omega arith))
      ∙ texts_back (x ∷ xs)

pub csv_back : (d : ℕ) (texts : List (List ℕ)) → (d ≡ 34 → ⊥) → (texts ≡ [] ∷ [] → ⊥) → map text_of_field (csv_fields d (join_with_byte d (map (spelled d) texts))) ≡ texts
csv_back d texts other some = read_back d (ne_eqb 34 d (λ e. other (sym e))) texts some
