-- The numbers of a sketch, and their numbers in C.
use Rattle.std.specs.Ordering.{int_eq}
use Rattle.std.specs.Prelude.{◌≡◌, ℕ, ℤ, pos, Option, Some, None, if◌then◌else◌}
use Rattle.any_sketch.specs.Numbers.{IsBounded, number_of}
use Rattle.any_sketch.specs.declared.number.Number.{Number}
use Rattle.any_sketch.specs.declared.number.Number.TheVariants as named
use Rattle.any_sketch.specs.declared.number.Number.TheVariants.{Seed, NumBits, BitsUsed, NumHashes, NumBuckets, TotalWeight, MaximumError, NumActiveItems, MaximumMapCapacity, CurrentMapCapacity, MaxMapSize, SampleSize}
use Rattle.datasketches_c.specs.Calls.{ReadsSketch}
use Rattle.datasketches_c.specs.Numbers.{bad_argument, ok, wrong_kind}
use Rattle.datasketches_c.specs.declared.held_sketch.HeldSketch.{HeldSketch}

-- the number that one of C's `DS_NUMBER_SEED` .. names, if it is one of them
abbrev pub number_numbered : ℤ → Option Number
number_numbered which =
    if int_eq which (pos 1) then Some Seed else if int_eq which (pos 2) then Some NumBits
    else if int_eq which (pos 3) then Some BitsUsed else if int_eq which (pos 4) then Some TotalWeight
    else if int_eq which (pos 5) then Some MaximumError else if int_eq which (pos 6) then Some NumActiveItems
    else if int_eq which (pos 7) then Some MaximumMapCapacity else if int_eq which (pos 8) then Some CurrentMapCapacity
    else if int_eq which (pos 9) then Some MaxMapSize else if int_eq which (pos 10) then Some SampleSize
    else if int_eq which (pos 11) then Some NumBuckets else if int_eq which (pos 12) then Some NumHashes
    else if int_eq which (pos 13) then Some named.Kind else None

-- the number was written, or the kind does not have it and nothing was written
abbrev pub WritesNumber : Option ℕ → (old new : ℕ) → ℤ → Type 0
WritesNumber (Some number) old new result = (result ≡ ok) × (new ≡ number)
WritesNumber None old new result = (result ≡ wrong_kind) × (new ≡ old)

-- the number of the handle's sketch, which may be shared. If no number is named so, the result is `bad_argument`
abbrev pub TellsNumber : Option Number → Option HeldSketch → (old new : ℕ) → ℤ → Type 0
TellsNumber None handle old new result = (result ≡ bad_argument) × (new ≡ old)
TellsNumber (Some which) handle old new result =
    ReadsSketch handle result (λ s. WritesNumber (number_of s which) old new result × IsBounded s)
