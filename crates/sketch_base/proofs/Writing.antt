-- What is written of items in pieces, one behind another.
use Rattle.std.proofs.Common.{◌≡◌, List, ◌++◌, sym, ap, ◌∙◌, append_assoc}
use Rattle.std.specs.List.{flat_map}
use Rattle.std.proofs.lemmas.List.Concat.{flat_map-append}

-- a piece more: what each item of it is written as stands behind what was written before
pub piece_written : {A B : Type 0} (f : A → List B) (done part more : List A) (old now new piece : List B) → more ≡ done ++ part → now ≡ old ++ flat_map f done → piece ≡ flat_map f part → new ≡ now ++ piece → new ≡ old ++ flat_map f more
piece_written {A} {B} f done part more old now new piece more_is now_is piece_is new_is =
    new_is
    ∙ (ap (λ (bs : List B). bs ++ piece) now_is
    ∙ (append_assoc old (flat_map f done) piece
    ∙ ap (λ (bs : List B). old ++ bs) (ap (λ (bs : List B). flat_map f done ++ bs) piece_is
    ∙ (sym (flat_map-append f done part) ∙ ap (flat_map f) (sym more_is)))))
