-- The requests of lines.
use Rattle.std.specs.Prelude.{ℕ, List}
use Rattle.datasketches.specs.Actions.{Action}
use Rattle.datasketches.specs.ErrorType.{ErrorType}

-- the request of a line, with the bytes of its item, if any
pub data Request : Type 0 where
  Act : Action (List ℕ) → Request
  OpenWindows : (windows max_map_size : ℕ) → Request
  AddTo : (tenant weight : ℕ) → (item : List ℕ) → Request
  TurnOf : (tenant : ℕ) → Request
  ReportOf : (tenant : ℕ) → ErrorType → (threshold : ℕ) → Request
