-- The invariant of a run of commands.
use Rattle.std.specs.Prelude.{◌+◌, ◌≤◌, ℕ, Bool, List, ◌++◌, length}
use Rattle.sketch_frequencies.specs.Items.{Codec}
use Rattle.datasketches.specs.State.{SessionState}
use Rattle.datasketches.specs.Steps.{Run}
use Rattle.datasketches.specs.declared.command.Command.{Command}
use Rattle.datasketches.specs.declared.reply.Reply.{Reply}

-- each run of the remaining commands completes a run of all commands, and there is room for their replies
pub record Midst {T C : Type 0} (slot : ℕ) (eq : T → T → Bool) (input : T → List (List ℕ)) (codec : Codec C) (content : T → C)
    (start s : SessionState T) (commands rest : List (Command T)) (told : List (Reply T)) (room : ℕ) : Type 0 where
  pub run : (replies : List (Reply T)) (end : SessionState T)
      → Run slot eq input codec content s rest replies end → Run slot eq input codec content start commands (told ++ replies) end
  pub space : length told + length rest ≤ room
