-- The checks of a format, in order.
use Rattle.std.specs.Prelude.{◌≡◌, ◌⊎◌, ◌≤◌, ℕ, Bool, Option, Some, None, List, [], ◌∷◌, if◌then◌else◌, length, nat_le, ◌==◌}
use Rattle.sketch_base.specs.Errors.{ErrorValue, invalid_data, no_memory}
use Rattle.sketch_base.specs.Fields.{byte_at}
use Rattle.sketch_base.specs.declared.fault.Fault.{Fault}
use Rattle.sketch_base.specs.declared.fault.Fault.TheVariants.{InsufficientData, BadFamily, BadVersion}

-- the fault of the first check that fails; a check is a test and the fault if it fails
abbrev pub first_failing : List (Bool × Fault) → Option Fault
first_failing [] = None
first_failing (check ∷ checks) = if check.0 then first_failing checks else Some check.1

-- the first checks of every image: its minimum length, its family and its version
abbrev pub opening_checks : (least family : ℕ) → List ℕ → List (Bool × Fault)
opening_checks least family image =
    (nat_le least (length image), InsufficientData)
    ∷ (byte_at image 2 == family, BadFamily)
    ∷ (byte_at image 1 == 1, BadVersion)
    ∷ []

-- these checks pass
pub record Opens (least id : ℕ) (image : List ℕ) : Type 0 where
  pub long : least ≤ length image
  pub family : byte_at image 2 ≡ id
  pub version : byte_at image 1 ≡ 1

-- the first of two faults, if any
abbrev pub or_else : Option Fault → Option Fault → Option Fault
or_else None later = later
or_else (Some fault) later = Some fault

-- an image is rejected with its first fault, or with out of memory if no check before the allocation fails
abbrev pub IsImageRefusal : (before whole : Option Fault) → ErrorValue → Type 0
IsImageRefusal before whole e =
    ((e ≡ no_memory) × (before ≡ None)) ⊎ ((e ≡ invalid_data e.fault) × (whole ≡ Some e.fault))
