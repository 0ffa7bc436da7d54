-- Errors of calls on sketches of any kind.
use Rattle.std.specs.Prelude.{ℕ, List, codes}
use Rattle.sketch_base.specs.Faults.{fault_text}
use Rattle.any_sketch.specs.declared.any_error.AnyError.{AnyError}
use Rattle.any_sketch.specs.declared.any_error.AnyError.TheVariants.{Sketch, WrongKind}

-- the message of an error
abbrev pub error_text : AnyError → List ℕ
error_text WrongKind = codes "wrong kind of sketch or item"
error_text (Sketch error) = fault_text error.fault
