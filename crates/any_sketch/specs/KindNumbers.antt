-- The numbers of kinds.
use Rattle.std.specs.Ordering.{int_eq}
use Rattle.std.specs.Prelude.{ℕ, ℤ, pos, Option, Some, None, if◌then◌else◌}
use Rattle.any_sketch.specs.declared.kind.Kind.{Kind}
use Rattle.any_sketch.specs.declared.kind.Kind.TheVariants.{Filter, CountU64, CountI64, FrequentU64, FrequentI64, FrequentStrings}

-- the number of a kind, by which C and stored data name it
abbrev pub kind_number : Kind → ℕ
kind_number Filter = 1
kind_number CountU64 = 2
kind_number CountI64 = 3
kind_number FrequentU64 = 4
kind_number FrequentI64 = 5
kind_number FrequentStrings = 6

-- the kind of such a number, if it is one
abbrev pub kind_numbered : ℤ → Option Kind
kind_numbered number =
    if int_eq number (pos 1) then Some Filter else if int_eq number (pos 2) then Some CountU64
    else if int_eq number (pos 3) then Some CountI64 else if int_eq number (pos 4) then Some FrequentU64
    else if int_eq number (pos 5) then Some FrequentI64 else if int_eq number (pos 6) then Some FrequentStrings else None
