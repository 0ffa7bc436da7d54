-- The laws of items in lines of text.
use Rattle.std.proofs.Common.{◌≡◌, ℕ, Bool, true, false, cond, eqb, ◌||◌, List, [], ◌∷◌, ◌++◌, codes, refl, sym, ◌∙◌, ap}
use Rattle.std.proofs.lemmas.Bool.{eqb-true}
use Rattle.std.proofs.lemmas.List.Folds.{list_any-append}
use Rattle.std.specs.List.{list_any}
use Rattle.sketches.specs.TextEscapes.{ends_part, item_after, item_of_text, text_byte, text_escaped}

-- a byte, by the tests for a tab, a line feed, a carriage return and a backslash
byte_by_tests : (x : ℕ) (rest : List ℕ) (tab feed return slash : Bool) → eqb x 9 ≡ tab → eqb x 10 ≡ feed → eqb x 13 ≡ return → eqb x 92 ≡ slash
    → item_after false (cond tab (codes "\\t") (cond feed (codes "\\n") (cond return (codes "\\r") (cond slash (codes "\\\\") (x ∷ [])))) ++ rest) ≡ x ∷ item_after false rest
byte_by_tests x rest true feed return slash is _ _ _ = ap (λ (y : ℕ). y ∷ item_after false rest) (sym (eqb-true x 9 is))
byte_by_tests x rest false true return slash _ is _ _ = ap (λ (y : ℕ). y ∷ item_after false rest) (sym (eqb-true x 10 is))
byte_by_tests x rest false false true slash _ _ is _ = ap (λ (y : ℕ). y ∷ item_after false rest) (sym (eqb-true x 13 is))
byte_by_tests x rest false false false true _ _ _ is = ap (λ (y : ℕ). y ∷ item_after false rest) (sym (eqb-true x 92 is))
byte_by_tests x rest false false false false _ _ _ is = ap (λ (b : Bool). cond b (item_after true rest) (x ∷ item_after false rest)) is

byte_read : (x : ℕ) (rest : List ℕ) → item_after false (text_byte x ++ rest) ≡ x ∷ item_after false rest
byte_read x rest = byte_by_tests x rest (eqb x 9) (eqb x 10) (eqb x 13) (eqb x 92) refl refl refl refl

-- an escaped item means the item
pub text_read : (item : List ℕ) → item_of_text (text_escaped item) ≡ item
text_read [] = refl
text_read (x ∷ item) = byte_read x (text_escaped item) ∙ ap (λ (l : List ℕ). x ∷ l) (text_read item)

-- so no two items are escaped alike
pub text_differs : (a b : List ℕ) → text_escaped a ≡ text_escaped b → a ≡ b
text_differs a b same = sym (text_read a) ∙ (ap item_of_text same ∙ text_read b)

-- ---- an escaped item has no tab and no line end

inside_by_tests : (x : ℕ) (tab feed return slash : Bool) → eqb x 9 ≡ tab → eqb x 10 ≡ feed → eqb x 13 ≡ return
    → list_any ends_part (cond tab (codes "\\t") (cond feed (codes "\\n") (cond return (codes "\\r") (cond slash (codes "\\\\") (x ∷ []))))) ≡ false
inside_by_tests x true feed return slash _ _ _ = refl
inside_by_tests x false true return slash _ _ _ = refl
inside_by_tests x false false true slash _ _ _ = refl
inside_by_tests x false false false true _ _ _ = refl
inside_by_tests x false false false false no_tab no_feed no_return = rw (no_tab, no_feed, no_return) refl

pub text_inside : (item : List ℕ) → list_any ends_part (text_escaped item) ≡ false
text_inside [] = refl
text_inside (x ∷ item) =
    list_any-append ends_part (text_byte x) (text_escaped item)
    ∙ (ap (λ (b : Bool). b || list_any ends_part (text_escaped item)) (inside_by_tests x (eqb x 9) (eqb x 10) (eqb x 13) (eqb x 92) refl refl refl) ∙ text_inside item)
