-- A step at an item that a key names is one at an item equal to each that it names.
use Rattle.std.proofs.Common.{◌≡◌, ℕ, Bool, sym, ◌∙◌}
use Rattle.std.specs.Prelude.{IsTrue, OnOk, Ok, Err, Result}
use Rattle.sketch_frequencies.specs.State.{FrequentState}
use Rattle.sketch_frequencies.specs.Steps.{StepsEqual, StepsByKey}

pub step_equal : {T : Type 0} {eq : T → T → Bool} {names : T → Bool} → ((x y : T) → IsTrue (names x) → names y ≡ eq x y) → (x : T) → IsTrue (names x) → {old new : FrequentState T} {w : ℕ} → StepsByKey eq old names w new → StepsEqual eq old x w new
step_equal alike x is s = record { item = s.item; named = sym (alike x s.item is) ∙ s.named; step = s.step }

-- what holds of a success, by what holds of it
pub on_ok : {A E : Type 0} {P Q : Type 0} (r : Result A E) → (P → Q) → OnOk r P → OnOk r Q
on_ok (Ok a) f p = f p
on_ok (Err e) f p = tt
