-- Errors: a kind and a fault.
use Rattle.std.specs.Prelude.{Option, Some, None}
use Rattle.sketch_base.specs.declared.error.ErrorKind.{ErrorKind}
use Rattle.sketch_base.specs.declared.error.ErrorKind.TheVariants.{InvalidArgument, InvalidData, OutOfMemory}
use Rattle.sketch_base.specs.declared.fault.Fault.{Fault}
use Rattle.sketch_base.specs.declared.fault.Fault.TheVariants.{NoMemory}

-- an error: its kind, and the fault that caused it
pub record ErrorValue : Type 0 where
  pub kind : ErrorKind
  pub fault : Fault

-- the error of a kind with a fault
abbrev pub refusal : ErrorKind → Fault → ErrorValue
refusal kind fault = record { kind = kind; fault = fault }

-- an argument is rejected
abbrev pub invalid_argument : Fault → ErrorValue
invalid_argument fault = record { kind = InvalidArgument; fault = fault }

-- bytes that were read are rejected
abbrev pub invalid_data : Fault → ErrorValue
invalid_data fault = record { kind = InvalidData; fault = fault }

-- an allocation failed
abbrev pub no_memory : ErrorValue
no_memory = record { kind = OutOfMemory; fault = NoMemory }

-- the error for a fault of the arguments, or else out of memory
abbrev pub refusal_of : Option Fault → ErrorValue
refusal_of (Some fault) = invalid_argument fault
refusal_of None = no_memory
