-- The failure that the error of a sketch or of a filter causes.
use Rattle.sketch_base.specs.declared.fault.Fault.{Fault}
use Rattle.sketch_base.specs.declared.fault.Fault.TheVariants.{NoMemory, WeightOverflow}
use Rattle.sketches.specs.declared.failure.Failure.{Failure}
use Rattle.sketches.specs.declared.failure.Failure.TheVariants.{Memory, TooManyItems, BadSize}

-- the failure that a fault causes
abbrev pub failure_of : Fault → Failure
failure_of NoMemory = Memory
failure_of WeightOverflow = TooManyItems
failure_of _ = BadSize
