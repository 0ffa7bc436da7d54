-- The histories of bytes that are loaded.
use Rattle.std.specs.Prelude.{Bool, List, ◌∷◌}
use Rattle.sketch_frequencies.specs.Items.{Codec}
use Rattle.datasketches.specs.Actions.{action_of, Action, Action as action}
use Rattle.datasketches.specs.Histories.{History}
use Rattle.datasketches.specs.Images.{IsImageOf}
use Rattle.datasketches.specs.declared.command.Command.{Command}

module _ {T C : Type 0} (eq : T → T → Bool) (codec : Codec C) (content : T → C) where
  -- the bytes that the action loads, if any, are an image that a sketch of this history would write
  abbrev pub IsActionTold : Action T → History T → Type 0
  IsActionTold (action.Load name kind bytes max_bytes) loaded = IsImageOf eq codec content kind bytes loaded
  IsActionTold _ loaded = Unit {0}

  -- the same of a command
  abbrev pub IsTold : Command T → History T → Type 0
  IsTold command loaded = IsActionTold (action_of command) loaded

  -- the same of each command that has a history in the list
  abbrev pub AreTold : List (Command T) → List (History T) → Type 0
  AreTold (command ∷ commands) (history ∷ loaded) = IsTold command history × AreTold commands loaded
  AreTold _ _ = Unit {0}
