-- The parts of a line, and the line.
use Rattle.std.proofs.Common.{◌≡◌, ℕ, ◌+◌, ◌<◌, List, [], ◌∷◌, ◌++◌, length, get_or, take, append_assoc, sym, ◌∙◌, ap}
use Rattle.std.specs.Fmt.{decimal}
use Rattle.std.specs.List.{flat_map}
use Rattle.std.specs.Prelude.{codes}
use Rattle.std.specs.String.{string_bytes}
use Rattle.std.proofs.lemmas.List.{flat_map_more, take_more}
use Rattle.datasketches.specs.RowValue.{RowValue}
use Rattle.datasketches_cli.specs.Printing.{row_text}
use Rattle.datasketches_cli.specs.Texts.{Text}

-- six parts and a last one, as they are written and as a text has them
seven_parts : (old a b c d e f last : List ℕ) → (old ++ (a ++ (b ++ (c ++ (d ++ (e ++ f)))))) ++ last ≡ old ++ ((((((a ++ b) ++ c) ++ d) ++ e) ++ f) ++ last)
seven_parts old a b c d e f last =
    append_assoc old (a ++ (b ++ (c ++ (d ++ (e ++ f))))) last
    ∙ ap (λ (l : List ℕ). old ++ l)
    ((append_assoc a (b ++ (c ++ (d ++ (e ++ f)))) last
    ∙ ap (λ (l : List ℕ). a ++ l)
    (append_assoc b (c ++ (d ++ (e ++ f))) last
    ∙ ap (λ (l : List ℕ). b ++ l)
    (append_assoc c (d ++ (e ++ f)) last
    ∙ ap (λ (l : List ℕ). c ++ l) (append_assoc d (e ++ f) last ∙ ap (λ (l : List ℕ). d ++ l) (append_assoc e f last)))))
    ∙ sym (append_assoc ((((a ++ b) ++ c) ++ d) ++ e) f last ∙ append_assoc (((a ++ b) ++ c) ++ d) e (f ++ last)
    ∙ append_assoc ((a ++ b) ++ c) d (e ++ (f ++ last)) ∙ append_assoc (a ++ b) c (d ++ (e ++ (f ++ last)))
    ∙ append_assoc a b (c ++ (d ++ (e ++ (f ++ last))))))

-- the same, and the line's end
pub seven_parts_and_end : (old a b c d e f last end : List ℕ) → (old ++ (a ++ (b ++ (c ++ (d ++ (e ++ f)))))) ++ (last ++ end) ≡ old ++ (((((((a ++ b) ++ c) ++ d) ++ e) ++ f) ++ last) ++ end)
seven_parts_and_end old a b c d e f last end =
    seven_parts old a b c d e f (last ++ end) ∙ ap (λ (l : List ℕ). old ++ l) (sym (append_assoc (((((a ++ b) ++ c) ++ d) ++ e) ++ f) last end))

eight_parts : (a b c d e f g h : List ℕ) → ((((((a ++ b) ++ c) ++ d) ++ e) ++ f) ++ g) ++ h ≡ a ++ (b ++ (c ++ (d ++ (e ++ (f ++ (g ++ h))))))
eight_parts a b c d e f g h =
    append_assoc (((((a ++ b) ++ c) ++ d) ++ e) ++ f) g h ∙ append_assoc ((((a ++ b) ++ c) ++ d) ++ e) f (g ++ h) ∙ append_assoc (((a ++ b) ++ c) ++ d) e (f ++ (g ++ h))
    ∙ append_assoc ((a ++ b) ++ c) d (e ++ (f ++ (g ++ h))) ∙ append_assoc (a ++ b) c (d ++ (e ++ (f ++ (g ++ h)))) ∙ append_assoc a b (c ++ (d ++ (e ++ (f ++ (g ++ h)))))

-- the text of a row behind those of the rows before it
pub one_more_row : (old was is : List ℕ) (rows : List (RowValue Text)) (at : ℕ) (row : RowValue Text) → at < length rows → row ≡ get_or rows at row → was ≡ old ++ flat_map row_text (take at rows) →
    is ≡ was ++ (codes " " ++ (string_bytes row.item ++ (codes " " ++ (decimal row.estimate ++ (codes " " ++ (decimal row.lower_bound ++ (codes " " ++ decimal row.upper_bound))))))) → is ≡ old ++ flat_map row_text (take (at + 1) rows)
one_more_row old was is rows at row less here before written =
    let next : take (at + 1) rows ≡ take at rows ++ row ∷ [] = take_more rows at row less ∙ ap (λ (r : RowValue Text). take at rows ++ r ∷ []) (sym here) in
    written
    ∙ ap (λ (l : List ℕ). was ++ l) (sym (eight_parts (codes " ") (string_bytes row.item) (codes " ") (decimal row.estimate) (codes " ") (decimal row.lower_bound) (codes " ") (decimal row.upper_bound)))
    ∙ ap (λ (l : List ℕ). l ++ row_text row) before ∙ flat_map_more row_text old (take at rows) row
    ∙ ap (λ (l : List (RowValue Text)). old ++ flat_map row_text l) (sym next)
