-- Many sessions: what they load from one another, and what holds of their sketches.
use Rattle.std.specs.Prelude.{◌≡◌, ℕ, Bool, true, List, Option, Some, None}
use Rattle.std.specs.List.{Contains}
use Rattle.std.specs.Global.{Global}
use Rattle.std.specs.declared.vec.Vec.{Vec}
use Rattle.sketch_bloom.specs.History.{BloomHistory}
use Rattle.sketch_bloom.specs.Parts.{parts_of}
use Rattle.sketch_bloom.specs.State.{FilterState, IsCompatible, contains_item}
use Rattle.sketch_countmin.specs.History as count
use Rattle.sketch_frequencies.specs.Items.{Codec}
use Rattle.datasketches.specs.Actions.{Action, Shape, Shape as shape}
use Rattle.datasketches.specs.Histories.{History, Assignment, nothing_named, stranger_of, after_action, after_action_told}
use Rattle.datasketches.specs.Histories.History.{OfFrequent, OfCountI64, OfCountU64, OfBloom, OfStranger}
use Rattle.datasketches.specs.Laws.{IsNamed}
use Rattle.datasketches.specs.SessionStandsFor.{SessionStandsFor}
use Rattle.datasketches.specs.Stands.{IsSketch}
use Rattle.datasketches.specs.State.{SessionKeys, SessionState, nothing_stored}
use Rattle.datasketches.specs.Steps.{Performs}
use Rattle.datasketches.specs.Actions.Action.{Load, ShowImage}
use Rattle.datasketches.specs.declared.image_kind.ImageKind.{ImageKind}
use Rattle.datasketches.specs.declared.image_kind.ImageKind.TheVariants as kind
use Rattle.datasketches.specs.declared.reply.Reply.{Reply}
use Rattle.datasketches.specs.declared.reply.Reply.TheVariants.{Image as Shown}
use Rattle.datasketches.specs.declared.sketch.Sketch.{Sketch}
use Rattle.datasketches.specs.declared.sketch.Sketch.TheVariants.{Bloom}

-- ---- from one session to another

module _ {T : Type 0} where
  -- the kind is that of an image of a sketch with this history, and has the sketch's seed. Any seed fits an untrusted image
  abbrev pub IsKindOf : ImageKind → History T → Type 0
  IsKindOf kind.Frequent (OfFrequent h) = Unit {0}
  IsKindOf (kind.CountI64 seed) (OfCountI64 h) = seed ≡ count.seed_of h
  IsKindOf (kind.CountU64 seed) (OfCountU64 h) = seed ≡ count.seed_of h
  IsKindOf kind.Bloom (OfBloom h) = Unit {0}
  IsKindOf kind.Frequent (OfStranger (shape.Frequent sizes)) = Unit {0}
  IsKindOf (kind.CountI64 seed) (OfStranger (shape.CountI64 sizes)) = Unit {0}
  IsKindOf (kind.CountU64 seed) (OfStranger (shape.CountU64 sizes)) = Unit {0}
  IsKindOf kind.Bloom (OfStranger (shape.Bloom request)) = Unit {0}
  IsKindOf _ _ = ⊥

  -- the history that an image was saved with. If there is none, it is that of what the action loads, as an untrusted image
  abbrev pub or_stranger : Action T → Option (History T) → History T
  or_stranger action None = stranger_of action
  or_stranger action (Some h) = h

-- how a session came about, among others. It began with no names and some keys, performed an action, or loaded an image that another session
-- returned
pub data Process (T : Type 0) : Type 0 where
  Began : SessionKeys → Process T
  Did : Process T → Action T → Reply T → SessionState T → Process T
  Took : Process T → (from : Process T) → (image : List ℕ) → (shown : Vec ℕ Global) → Action T → Reply T → SessionState T
      → Process T

module _ {T : Type 0} where
  -- the session at the end of the process
  abbrev pub session_of : Process T → SessionState T
  session_of (Began keys) = nothing_stored keys
  session_of (Did p action reply now) = now
  session_of (Took p from image shown action reply now) = now

  -- the action loads these bytes as an image of this history's kind
  abbrev pub LoadsShown : Vec ℕ Global → History T → Action T → Type 0
  LoadsShown shown h (Load name kind bytes max_bytes) = IsKindOf kind h × (bytes ≡ shown.items)
  LoadsShown shown h _ = ⊥

module _ {T : Type 0} (input : T → List (List ℕ)) where
  -- the histories of the session's names. An image that it loaded has the history with which the other session saved it
  abbrev pub histories_of : Process T → Assignment T
  histories_of (Began keys) = nothing_named
  histories_of (Did p action reply now) = after_action input (histories_of p) action reply
  histories_of (Took p from image shown action reply now) =
      after_action_told input (histories_of p) action (or_stranger action ((histories_of from).images image)) reply

module _ {T C : Type 0} (slot : ℕ) (eq : T → T → Bool) (input : T → List (List ℕ)) (codec : Codec C) (content : T → C) where
  -- the session returns these bytes for the image
  abbrev pub Shows : SessionState T → List ℕ → Vec ℕ Global → Type 0
  Shows session image shown =
      (after : SessionState T) × Performs slot eq input codec content session (ShowImage image) (Shown shown) after

  -- each action was performed with its reply, and each loaded image is what the other session returned
  abbrev pub IsProcess : Process T → Type 0
  IsProcess (Began keys) = Unit {0}
  IsProcess (Did p action reply now) = IsProcess p × Performs slot eq input codec content (session_of p) action reply now
  IsProcess (Took p from image shown action reply now) =
      IsProcess p × IsProcess from × Shows (session_of from) image shown
      × LoadsShown shown (or_stranger action ((histories_of input from).images image)) action
      × Performs slot eq input codec content (session_of p) action reply now

  -- the law of two sessions. If one returns the bytes of an image and another loads them, the other stands for the image's
  -- history
  abbrev pub LoadKeepsShown : Type 0
  LoadKeepsShown = (from old new : SessionState T) (a b : Assignment T) (h : History T) (image name : List ℕ)
      (shown : Vec ℕ Global) (bytes : List ℕ) (kind : ImageKind) (max_bytes : ℕ) (reply : Reply T)
      → SessionStandsFor eq codec content from a → a.images image ≡ Some h → Shows from image shown
      → SessionStandsFor eq codec content old b → IsKindOf kind h → bytes ≡ shown.items
      → Performs slot eq input codec content old (Load name kind bytes max_bytes) reply new
      → SessionStandsFor eq codec content new (after_action_told input b (Load name kind bytes max_bytes) h reply)

  -- the law of many sessions: each stands for its histories
  abbrev pub ProcessStandsForHistories : Type 0
  ProcessStandsForHistories = (p : Process T) → IsProcess p → SessionStandsFor eq codec content (session_of p) (histories_of input p)

-- ---- sketches of sessions

module _ {T C : Type 0} (eq : T → T → Bool) (codec : Codec C) (content : T → C) where
  -- a filter contains what a compatible filter of any of its parts contains
  abbrev pub ContainsWhatAnyContains : Type 0
  ContainsWhatAnyContains = (s part : FilterState) (h g : BloomHistory)
      → IsNamed eq codec content (Bloom s) (OfBloom h) → IsNamed eq codec content (Bloom part) (OfBloom g)
      → Contains (parts_of h) g → IsCompatible s part
      → (bytes : List ℕ) → contains_item part bytes ≡ true → contains_item s bytes ≡ true

  -- a sketch that was loaded from an untrusted image is valid, so its counts and error are at most its total
  abbrev pub StrangersAreSketches : Type 0
  StrangersAreSketches = (sketch : Sketch T) (known : Shape)
      → IsNamed eq codec content sketch (OfStranger known) → IsSketch eq sketch
