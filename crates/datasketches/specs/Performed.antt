-- The clauses of a session's calls.
use Rattle.std.specs.Prelude.{◌≡◌, true}
use Rattle.datasketches.specs.Actions.{Action}
use Rattle.datasketches.specs.Hashing.{HasOneKey}
use Rattle.datasketches.specs.Histories.{History, Assignment, after_action, after_action_told}
use Rattle.datasketches.specs.ItemTypes.{ItemType}
use Rattle.datasketches.specs.Loading.{IsActionTold}
use Rattle.datasketches.specs.Replies.{is_refused}
use Rattle.datasketches.specs.SessionStandsFor.{SessionStandsFor}
use Rattle.datasketches.specs.State.{SessionState, IsUnchanged}
use Rattle.datasketches.specs.Steps.{Performs}
use Rattle.datasketches.specs.declared.reply.Reply.{Reply}

-- the action was performed, with this reply
pub record Performed {T C : Type 0} (items : ItemType T C)
    (action : Action T) (old : SessionState T) (reply : Reply T) (new : SessionState T) : Type 0 where
  -- it did to the sketch or image that it creates or names first what the sketch's own call does, and changed no other
  pub step : Performs items.slot items.eq items.input items.codec items.content old action reply new
  -- a session that stood for an assignment stands for it as the action and its reply changed it
  pub fits : (a : Assignment T) → SessionStandsFor items.eq items.codec items.content old a
      → SessionStandsFor items.eq items.codec items.content new (after_action items.input a action reply)
  -- the same if the bytes that it loads are truly of the history `loaded`
  pub told : (a : Assignment T) (loaded : History T) → SessionStandsFor items.eq items.codec items.content old a
      → IsActionTold items.eq items.codec items.content action loaded
      → SessionStandsFor items.eq items.codec items.content new (after_action_told items.input a action loaded reply)
  -- the session keeps its keys, and its sketches have the tables' key if they had it before
  pub keys : new.keys ≡ old.keys
  pub keyed : HasOneKey old → HasOneKey new
  -- a rejected action changed nothing
  pub refused : is_refused reply ≡ true → IsUnchanged old new
