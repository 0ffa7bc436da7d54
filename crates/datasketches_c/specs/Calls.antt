-- Calls on the sketch of a handle, whose result is the number of what the library's call returned.
use Rattle.std.specs.Prelude.{◌≡◌, ℤ, Bool, true, false, IfOk, OnErr, Option, None, Some, Result, Ok, Err, if◌then◌else◌}
use Rattle.any_sketch.specs.declared.any_error.AnyError.{AnyError}
use Rattle.any_sketch.specs.declared.any_error.AnyError.TheVariants.{Sketch, WrongKind}
use Rattle.any_sketch.specs.declared.any_sketch.AnySketch.{AnySketch}
use Rattle.datasketches_c.specs.Numbers.{no, no_sketch, ok, refusal_number, wrong_kind, yes}
use Rattle.datasketches_c.specs.Sharing.{unchangeable, unshared}
use Rattle.datasketches_c.specs.declared.held_sketch.HeldSketch.{HeldSketch}
use Rattle.datasketches_c.specs.declared.held_sketch.HeldSketch.TheVariants.{Own}

-- the number of a result: that of its error, or of its value
abbrev pub code_of : {A : Type 0} → (A → ℤ) → Result A AnyError → ℤ
code_of code (Ok value) = code value
code_of code (Err WrongKind) = wrong_kind
code_of code (Err (Sketch error)) = refusal_number error.fault

-- the number of a test
abbrev pub yes_or_no : Bool → ℤ
yes_or_no is = if is then yes else no

-- the number is that of a result of which the statement holds
pub record IsCode {A : Type 0} (code : A → ℤ) (result : ℤ) (said : Result A AnyError → Type 0) : Type 0 where
  pub answer : Result A AnyError
  pub number : result ≡ code_of code answer
  pub holds : said answer

-- the call was done, or the number is that of its error
abbrev pub IsDone : ℤ → (Result (Unit {0}) AnyError → Type 0) → Type 0
IsDone = IsCode (λ _. ok)

-- the number is `yes` or `no`, or that of an error
abbrev pub IsAnswer : ℤ → (Result Bool AnyError → Type 0) → Type 0
IsAnswer = IsCode yes_or_no

-- the value of a result of which the statement holds was written. If it is an error, nothing was written
pub record IsWritten {A : Type 0} (old new : A) (result : ℤ) (said : Result A AnyError → Type 0) : Type 0 where
  pub answer : Result A AnyError
  pub number : result ≡ code_of (λ _. ok) answer
  pub holds : said answer
  pub written : IfOk answer (λ value. new ≡ value)
  pub untouched : OnErr answer (new ≡ old)

-- The statement holds of the sketch before and after the call, which the handle has for itself. A shared sketch is not changed.
abbrev pub ChangesHeld : (old new : HeldSketch) → ℤ → (AnySketch → AnySketch → Type 0) → Type 0
ChangesHeld (Own s) (Own t) result said = said s t
ChangesHeld (Own s) new result said = ⊥
ChangesHeld old new result said = (result ≡ unchangeable old) × (new ≡ old)

-- the same of the handle's sketch, if any
abbrev pub ChangesSketch : (old new : Option HeldSketch) → ℤ → (AnySketch → AnySketch → Type 0) → Type 0
ChangesSketch (Some old) (Some new) result said = ChangesHeld old new result said
ChangesSketch None new result said = (result ≡ no_sketch) × (new ≡ None)
ChangesSketch (Some old) None result said = ⊥

-- the statement holds of the sketch, which is not shared
abbrev pub ReadsOwn : HeldSketch → ℤ → (AnySketch → Type 0) → Type 0
ReadsOwn (Own s) result said = said s
ReadsOwn held result said = result ≡ wrong_kind

-- the same of the handle's sketch, if any, which may be shared
abbrev pub ReadsSketch : Option HeldSketch → ℤ → (AnySketch → Type 0) → Type 0
ReadsSketch None result said = result ≡ no_sketch
ReadsSketch (Some held) result said = ReadsOwn (unshared held) result said

-- The statement holds of the other handle's sketch, which may be shared. Without one, all is unchanged.
abbrev pub WithOwn : HeldSketch → ℤ → (unchanged : Type 0) → (AnySketch → Type 0) → Type 0
WithOwn (Own s) result unchanged said = said s
WithOwn held result unchanged said = (result ≡ wrong_kind) × unchanged

abbrev pub WithOther : Option HeldSketch → ℤ → (unchanged : Type 0) → (AnySketch → Type 0) → Type 0
WithOther None result unchanged said = (result ≡ no_sketch) × unchanged
WithOther (Some held) result unchanged said = WithOwn (unshared held) result unchanged said

-- the statement holds if the kind has the call. Otherwise all is unchanged
abbrev pub IfHasCall : Bool → ℤ → (unchanged said : Type 0) → Type 0
IfHasCall true result unchanged said = said
IfHasCall false result unchanged said = (result ≡ wrong_kind) × unchanged
