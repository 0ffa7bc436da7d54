-- The fields between delimiters, one after another.
use Rattle.std.proofs.Common.{◌≡◌, ℕ, zero, suc, ◌+◌, ◌-◌, ◌<◌, ◌≤◌, List, [], ◌∷◌, length, take, drop, refl, sym, ◌∙◌, ap, arith, ⊎_elim, length-drop}
use Rattle.std.proofs.lemmas.Bool.{cases_lt, eqb-true}
use Rattle.std.proofs.lemmas.List.{drop-drop, take_all}
use Rattle.std.proofs.lemmas.List.Splits.{slice_split_first, slice_split_none}
use Rattle.std.proofs.lemmas.List.Sums.{fails_before_first}
use Rattle.std.specs.List.{All, position_or_len, slice_split}
use Rattle.std.specs.Prelude.{◌==◌}
use Rattle.std.specs.Str.{IsUtf8}
use Rattle.sketch_base.proofs.PartsUtf8.{parts_utf8}

abbrev pub fields_of : ℕ → List ℕ → List (List ℕ)
fields_of d text = slice_split (λ byte. byte == d) text

-- one part less is left
pub one_less : (at : ℕ) (all left later : List (List ℕ)) (first : List ℕ) → drop at all ≡ left → left ≡ first ∷ later → drop (at + 1) all ≡ later
one_less at all left later first e f = sym (drop-drop 1 at all) ∙ ap (drop 1) (e ∙ f)

drop_of_none : (k : ℕ) → drop {A = List ℕ} k [] ≡ []
drop_of_none zero = refl
drop_of_none (suc k) = refl

-- after the last part there is none
pub none_after : (at index : ℕ) (all : List (List ℕ)) → drop at all ≡ [] → at ≤ index → take 1 (drop index all) ≡ []
none_after at index all e le =
    let sum : at + (index - at) ≡ index = omega arith in
    ap (take 1) (ap (λ (n : ℕ). drop n all) (sym sum) ∙ (sym (drop-drop (index - at) at all) ∙ (ap (drop (index - at)) e ∙ drop_of_none (index - at))))

-- a delimiter is at the index
pub first_field : (d : ℕ) (text item after later : List ℕ) (at : ℕ) → at ≡ position_or_len (λ byte. byte == d) text → item ≡ take at text → after ≡ drop at text → later ≡ drop 1 after → 0 < length after → fields_of d text ≡ item ∷ fields_of d later
first_field d text item after later at e i a l some =
    let less : position_or_len (λ byte. byte == d) text < length text = omega (arith, ap length a, length-drop at text, e) in
    slice_split_first (λ byte. byte == d) text 0 less
    ∙ (ap (λ (k : ℕ). take k text ∷ fields_of d (drop (k + 1) text)) (sym e)
    ∙ (ap (λ (x : List ℕ). x ∷ fields_of d (drop (at + 1) text)) (sym i)
    ∙ ap (λ (x : List ℕ). item ∷ fields_of d x) (sym (l ∙ (ap (drop 1) a ∙ drop-drop 1 at text)))))

-- there is none
pub last_field : (d : ℕ) (text after : List ℕ) (at : ℕ) → at ≡ position_or_len (λ byte. byte == d) text → after ≡ drop at text → length after ≡ 0 → fields_of d text ≡ text ∷ []
last_field d text after at e a none =
    slice_split_none (λ byte. byte == d) text (λ k x less. fails_before_first (λ byte. byte == d) text k x (omega (arith, ap length a, length-drop at text, e, none, less)))

-- the first field that is left
pub field_at_first : (d : ℕ) (text item : List ℕ) (at : ℕ) → at ≡ position_or_len (λ byte. byte == d) text → item ≡ take at text → take 1 (fields_of d text) ≡ item ∷ []
field_at_first d text item at e i = ⊎_elim
    (λ less. ap (take 1) (first_field d text item (drop at text) (drop 1 (drop at text)) at e i refl refl (omega (arith, length-drop at text, less))))
    (λ ge.
    ap (take 1) (last_field d text (drop at text) at e refl (omega (arith, length-drop at text, ge)))
    ∙ ap (λ (x : List ℕ). x ∷ []) (sym (i ∙ take_all at text ge)))
    (cases_lt at (length text))

-- the fields of UTF-8 between delimiters of ASCII are UTF-8
pub fields_utf8 : (d : ℕ) (text : List ℕ) → d < 128 → IsUtf8 text → All IsUtf8 (fields_of d text)
fields_utf8 d text ascii utf8 = parts_utf8 (λ byte. byte == d) (λ byte h. omega (arith, eqb-true byte d h)) text utf8
