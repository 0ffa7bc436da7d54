-- A line that is written, or not.
use Rattle.std.proofs.Common.{◌≡◌, ℕ, Bool, true, false, List, [], ◌∷◌, refl}
use Rattle.std.specs.Bool.{beq}
use Rattle.std.specs.Prelude.{if◌then◌else◌}
use Rattle.sketches.specs.Unseen.{is_written}

-- what is written of one line
abbrev pub chosen_records : (wanted seen : Bool) → List ℕ → List (List ℕ)
chosen_records wanted seen raw = if is_written wanted seen then raw ∷ [] else []

-- a line is written
pub writes_it : (wanted seen : Bool) (raw : List ℕ) → beq seen wanted ≡ true → chosen_records wanted seen raw ≡ raw ∷ []
writes_it true true raw e = refl
writes_it true false raw e = cc
writes_it false true raw e = cc
writes_it false false raw e = refl

pub skips_it : (wanted seen : Bool) (raw : List ℕ) → beq seen wanted ≡ false → chosen_records wanted seen raw ≡ []
skips_it true true raw e = cc
skips_it true false raw e = refl
skips_it false true raw e = refl
skips_it false false raw e = cc
