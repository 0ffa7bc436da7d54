-- The columns of an item, read back from it.
use Rattle.std.proofs.Common.{◌≡◌, ℕ, ◌<◌, Bool, true, false, cond, eqb, ltb, List, [], ◌∷◌, length, filter, refl, ◌∙◌, ap, arith}
use Rattle.std.specs.Char.{is_ascii_whitespace}
use Rattle.std.specs.List.{All, join_with_byte, slice_split}
use Rattle.std.proofs.lemmas.Bool.{eq-eqb}
use Rattle.std.proofs.lemmas.Bool.Decides.{nat_tests}
use Rattle.std.proofs.lemmas.List.Elements.{All-head, All-tail}
use Rattle.std.proofs.lemmas.List.Splits.{slice_split_at, slice_split_none}
use Rattle.sketch_base.specs.Split.{words_of}
use Rattle.sketch_text.specs.Columns.{IsField, IsWord}

-- ---- words and fields

-- parts are split where they were joined
split_joined : (p : ℕ → Bool) (c : ℕ) (parts : List (List ℕ)) → p c ≡ true → 0 < length parts → All (λ part. All (λ x. p x ≡ false) part) parts → slice_split p (join_with_byte c parts) ≡ parts
split_joined p c [] stops some none = absurd (omega (arith, some))
split_joined p c (x ∷ []) stops some none = slice_split_none p x (All-head (λ part. All (λ y. p y ≡ false) part) x [] none)
split_joined p c (x ∷ y ∷ more) stops some none =
    slice_split_at p x c (join_with_byte c (y ∷ more)) (All-head (λ part. All (λ z. p z ≡ false) part) x (y ∷ more) none) stops
    ∙ ap (λ l. x ∷ l) (split_joined p c (y ∷ more) stops (omega arith) (All-tail (λ part. All (λ z. p z ≡ false) part) x (y ∷ more) none))

pub fields_back : (d : ℕ) (fields : List (List ℕ)) → 0 < length fields → All (IsField d) fields → slice_split (λ byte. eqb byte d) (join_with_byte d fields) ≡ fields
fields_back d fields some all = split_joined (λ byte. eqb byte d) d fields (eq-eqb d d refl) some all

all_kept : (words : List (List ℕ)) → All IsWord words → filter (λ word. ltb 0 (length word)) words ≡ words
all_kept [] all = refl
all_kept (word ∷ words) all =
    let here : 0 < length word = (All-head IsWord word words all).0 in
    let test : ltb 0 (length word) ≡ true = grind (arith, nat_tests, here) in
    ap (λ (b : Bool). cond b (word ∷ filter (λ w. ltb 0 (length w)) words) (filter (λ w. ltb 0 (length w)) words)) test
    ∙ ap (λ l. word ∷ l) (all_kept words (All-tail IsWord word words all))

pub words_back : (words : List (List ℕ)) → All IsWord words → words_of (join_with_byte 32 words) ≡ words
words_back [] all = refl
words_back (word ∷ words) all =
    ap (filter (λ w. ltb 0 (length w))) (split_joined is_ascii_whitespace 32 (word ∷ words) refl (omega arith) (λ k d less. (all k d less).1))
    ∙ all_kept (word ∷ words) all
