-- Ownership of the sketch of a handle.
use Rattle.std.specs.Prelude.{Option, None, Some}
use mir.Syntax.{Ty}
use base.Fml.{Fml, feq}
use denote.RattleType.{RattleType}
use denote.RawPtr.{Ptr, null_ptr}
use Rattle.std.specs.Box.Ownership.{box_owns}

-- the pointer owns a value and the right to free its block, or it is null and there is no value
abbrev pub holds : (Ty → Ptr → Fml) → (R : RattleType) → Ptr → Option R.Denot → Fml
holds frees R pointer None = feq Ptr pointer null_ptr
holds frees R pointer (Some x) = box_owns frees R pointer x
