-- Numbers that calls hand on, and rows that are written one by one.
use Rattle.std.proofs.Common.{◌≡◌, ◌+◌, ◌<◌, ℤ, ℕ, List, length, map, take, set, get_or, ap, ◌∙◌, sym, subst}
use lib.Signed.{mag}
use mir.Syntax.{w32}
use mir.Val.{of_z, to_z}
use Rattle.sketch_base.specs.Batches.{written_more}
use Rattle.datasketches_c.proofs.Refusals.{same_answer}

-- what is said of a call's number is said of that number handed on
pub handed_on : (P : ℤ → Type 0) (answer : ℤ) → mag answer < 2147483648 → P answer → P (to_z w32 (of_z w32 answer))
handed_on P answer small said = subst P (sym (same_answer answer small)) said

-- a number that is known is handed on as it is
pub number_handed_on : {z : ℤ} (answer : ℤ) → answer ≡ z → to_z w32 (of_z w32 answer) ≡ to_z w32 (of_z w32 z)
number_handed_on answer is = ap (λ (x : ℤ). to_z w32 (of_z w32 x)) is

-- one place more is written
pub place_written : {A B : Type 0} (f : A → B) (xs : List A) (ys : List B) (i : ℕ) (x : A) (y : B) → i < length xs → i < length ys → x ≡ get_or xs i x → y ≡ f x
    → take i ys ≡ map f (take i xs) → take (i + 1) (set ys i y) ≡ map f (take (i + 1) xs)
place_written f xs ys i x y there room is made so_far = ap (λ z. take (i + 1) (set ys i z)) (made ∙ ap f is) ∙ written_more f xs ys i x there room so_far
