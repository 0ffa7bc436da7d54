-- Cases on a test and on a choice.
use Rattle.std.proofs.Common.{◌≡◌, Bool, true, false, refl, ◌⊎◌, inl, inr}

-- cases on a test, with the answer at hand
pub by_test : (b : Bool) (P : Bool → Type 0) → (b ≡ true → P true) → (b ≡ false → P false) → P b
by_test true P f g = f refl
by_test false P f g = g refl

-- cases on a choice
pub by_cases : {P Q G : Type 0} → P ⊎ Q → (P → G) → (Q → G) → G
by_cases (inl p) f g = f p
by_cases (inr q) f g = g q
