-- Why a sketch is not saved.
use Rattle.std.specs.Prelude.{◌^◌, ◌≤◌, length, Any}
use Rattle.std.specs.String.{string_bytes}
use Rattle.sketches.specs.Added.{Sketch}
use Rattle.sketches.specs.declared.image.save.SaveFailure.{SaveFailure}
use Rattle.sketches.specs.declared.image.save.SaveFailure.TheVariants.{Memory, ItemTooLong, Write}

-- why the image of a sketch was not written. A write or an allocation can fail for any sketch
abbrev pub IsNotSaved : Sketch → SaveFailure → Type 0
IsNotSaved s Memory = Unit {0}
IsNotSaved s ItemTooLong = Any (λ counter. 2 ^ 32 ≤ length (string_bytes counter.0)) s.counters
IsNotSaved s (Write error) = Unit {0}

-- the image could not be written
abbrev pub IsWriteFailure : SaveFailure → Type 0
IsWriteFailure (Write error) = Unit {0}
IsWriteFailure _ = ⊥
