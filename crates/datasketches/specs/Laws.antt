-- Laws of each sketch, by kind, in a session that stands for its histories.
use Rattle.std.specs.Prelude.{◌≡◌, ℕ, ◌⊎◌, Bool, List, Some}
use Rattle.sketch_bloom.specs.History.{BloomHistory}
use Rattle.sketch_bloom.specs.State.{FilterState}
use Rattle.sketch_countmin.specs.History.{CountHistory}
use Rattle.sketch_countmin.specs.State.{CountState, IsCountState}
use Rattle.sketch_frequencies.specs.History.{FrequentHistory}
use Rattle.sketch_frequencies.specs.Items.{Codec}
use Rattle.sketch_frequencies.specs.State.{FrequentState}
use Rattle.datasketches.specs.Actions.{Action}
use Rattle.datasketches.specs.SessionStandsFor.{SessionStandsFor}
use Rattle.datasketches.specs.Histories.{History, Assignment, after_action, after_action_told, after_one, after_one_told}
use Rattle.datasketches.specs.Histories.History.{OfFrequent, OfCountI64, OfCountU64, OfBloom}
use Rattle.datasketches.specs.Loading.{IsActionTold, IsTold}
use Rattle.datasketches.specs.Names.{at_name}
use Rattle.datasketches.specs.Replies.{max_signed, max_unsigned}
use Rattle.datasketches.specs.State.{SessionState}
use Rattle.datasketches.specs.Steps.{Performs, Step}
use Rattle.datasketches.specs.declared.command.Command.{Command}
use Rattle.datasketches.specs.declared.reply.Reply.{Reply}
use Rattle.datasketches.specs.declared.sketch.Sketch.{Sketch}
use Rattle.datasketches.specs.declared.sketch.Sketch.TheVariants.{Frequent, CountI64, CountU64, Bloom}

module _ {T C : Type 0} (eq : T → T → Bool) (codec : Codec C) (content : T → C) where
  -- some session that stands for some assignment has a name with this sketch and this history
  pub record IsNamed (sketch : Sketch T) (h : History T) : Type 0 where
    pub session : SessionState T
    pub histories : Assignment T
    pub name : List ℕ
    pub fits : SessionStandsFor eq codec content session histories
    pub sketch_is : at_name name session.sketches ≡ Some sketch
    pub history_is : histories.sketches name ≡ Some h

  -- the statement holds of each frequent items sketch that is named, and its history
  abbrev pub OfEachFrequent : (FrequentState T → FrequentHistory T → Type 0) → Type 0
  OfEachFrequent Says = (s : FrequentState T) (h : FrequentHistory T) → IsNamed (Frequent s) (OfFrequent h) → Says s h

  -- the statement holds of each filter that is named, and its history
  abbrev pub OfEachFilter : (FilterState → BloomHistory → Type 0) → Type 0
  OfEachFilter Says = (s : FilterState) (h : BloomHistory) → IsNamed (Bloom s) (OfBloom h) → Says s h

  -- some session has a name with a Count-Min sketch in this state, of either weight type, and with this history
  abbrev pub IsCounted : CountState → CountHistory → Type 0
  IsCounted s h = IsNamed (CountI64 s) (OfCountI64 h) ⊎ IsNamed (CountU64 s) (OfCountU64 h)

  -- the statement holds of each Count-Min sketch that is named, and its history
  abbrev pub OfEachCount : (CountState → CountHistory → Type 0) → Type 0
  OfEachCount Says = (s : CountState) (h : CountHistory) → IsCounted s h → Says s h

  -- a Count-Min sketch is valid for its weight type
  abbrev pub CountIsState : Type 0
  CountIsState = (s : CountState) (h : CountHistory)
      → (IsNamed (CountI64 s) (OfCountI64 h) → IsCountState max_signed s)
      × (IsNamed (CountU64 s) (OfCountU64 h) → IsCountState max_unsigned s)

module _ {T C : Type 0} (slot : ℕ) (eq : T → T → Bool) (input : T → List (List ℕ)) (codec : Codec C) (content : T → C) where
  -- after an action, the session stands for its earlier assignment as the action and its reply changed it
  abbrev pub ActionKeepsFit : Type 0
  ActionKeepsFit = (old new : SessionState T) (action : Action T) (reply : Reply T) (a : Assignment T)
      → SessionStandsFor eq codec content old a → Performs slot eq input codec content old action reply new
      → SessionStandsFor eq codec content new (after_action input a action reply)

  -- the same if the bytes that the action loads are truly of the history `loaded`
  abbrev pub ActionKeepsTold : Type 0
  ActionKeepsTold = (old new : SessionState T) (action : Action T) (reply : Reply T) (a : Assignment T) (loaded : History T)
      → SessionStandsFor eq codec content old a → IsActionTold eq codec content action loaded
      → Performs slot eq input codec content old action reply new
      → SessionStandsFor eq codec content new (after_action_told input a action loaded reply)

  -- the same of a command, whose step is that of its action
  abbrev pub StepKeepsFit : Type 0
  StepKeepsFit = (old new : SessionState T) (command : Command T) (reply : Reply T) (a : Assignment T)
      → SessionStandsFor eq codec content old a → Step slot eq input codec content old command reply new
      → SessionStandsFor eq codec content new (after_one input a command reply)

  abbrev pub StepKeepsTold : Type 0
  StepKeepsTold = (old new : SessionState T) (command : Command T) (reply : Reply T) (a : Assignment T) (loaded : History T)
      → SessionStandsFor eq codec content old a → IsTold eq codec content command loaded
      → Step slot eq input codec content old command reply new
      → SessionStandsFor eq codec content new (after_one_told input a command loaded reply)
