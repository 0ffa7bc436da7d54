-- Results of copying a sketch.
use Rattle.std.specs.Ordering.{int_eq}
use Rattle.std.specs.Prelude.{◌≡◌, Bool, nat_eq, IfErr, IfOk, Result}
use Rattle.std.specs.String.{string_eq}
use Rattle.sketch_base.specs.Errors.{no_memory}
use Rattle.sketch_frequencies.specs.History.{FrequentHistory}
use Rattle.sketch_frequencies.specs.Stands.{Extends, KeepsTailBudget}
use Rattle.sketch_frequencies.specs.State.{FrequentState}
use Rattle.sketch_frequencies.specs.Steps.{IsSameState}
use Rattle.any_sketch.specs.declared.any_error.AnyError.{AnyError}
use Rattle.any_sketch.specs.declared.any_error.AnyError.TheVariants.{Sketch}
use Rattle.any_sketch.specs.declared.any_sketch.AnySketch.{AnySketch}
use Rattle.any_sketch.specs.declared.any_sketch.AnySketch.TheVariants.{FrequentI64, FrequentU64, FrequentStrings}

-- new is a copy of old, up to the order of its counters and which of equal items it holds. It stands for the same histories, and
-- keeps each tail budget that old keeps
pub record IsCopy {T : Type 0} (eq : T → T → Bool) (old new : FrequentState T) : Type 0 where
  pub same : IsSameState eq old new
  pub stands : Extends eq old new (λ h. h)
  pub budget : (h : FrequentHistory T) → KeepsTailBudget eq old h → KeepsTailBudget eq new h

-- a copy of a sketch. That of a filter or a Count-Min sketch is equal to it, so it stands for the same histories
abbrev pub IsCopyOf : (sketch copy : AnySketch) → Type 0
IsCopyOf (FrequentStrings s) (FrequentStrings t) = IsCopy string_eq s t
IsCopyOf (FrequentI64 s) (FrequentI64 t) = IsCopy int_eq s t
IsCopyOf (FrequentU64 s) (FrequentU64 t) = IsCopy nat_eq s t
IsCopyOf sketch copy = copy ≡ sketch

-- the result is a copy of the sketch, or an allocation failed
pub record Copies (sketch : AnySketch) (result : Result AnySketch AnyError) : Type 0 where
  pub copy : IfOk result (IsCopyOf sketch)
  pub memory : IfErr result (λ e. e ≡ Sketch no_memory)
