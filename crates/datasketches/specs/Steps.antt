-- Effects of actions and commands, and the replies to them.
use Rattle.std.specs.Prelude.{◌≡◌, ◌≢◌, ℕ, ◌⊎◌, Bool, List, [], ◌∷◌, Option, None, MatchOption}
use Rattle.std.specs.Global.{Global}
use Rattle.std.specs.declared.vec.Vec.{Vec}
use Rattle.counter_table.specs.declared.table_key.TableKey.{TableKey}
use Rattle.sketch_frequencies.specs.Items.{Codec}
use Rattle.sketch_base.specs.Errors.{ErrorValue, no_memory, refusal_of}
use Rattle.datasketches.specs.Actions.{action_of, Action, Action as action, Change, Join, Shape}
use Rattle.datasketches.specs.Answering.{Tells, Lists, status_of}
use Rattle.datasketches.specs.Changing.{Changes}
use Rattle.datasketches.specs.Histories.{begun, changed, joined}
use Rattle.datasketches.specs.Hashing.{IsUnder}
use Rattle.datasketches.specs.Images.{Image, IsWriteRefusal, IsReadRefusal, IsLoadRefusal, IsWrittenBy, IsReadFrom, GivesBack, TakesWithin, load_fault}
use Rattle.datasketches.specs.Joining.{Joins}
use Rattle.datasketches.specs.Names.{at_name, Puts, AreSame}
use Rattle.datasketches.specs.Replies.{refused}
use Rattle.datasketches.specs.Shapes.{empty_sketch, fault_of}
use Rattle.datasketches.specs.Stands.{StandsFor, Does, DoesWith}
use Rattle.datasketches.specs.State.{SessionState, IsUnchanged, KeepsImages}
use Rattle.datasketches.specs.declared.command.Command.{Command}
use Rattle.datasketches.specs.declared.image_kind.ImageKind.{ImageKind}
use Rattle.datasketches.specs.declared.reply.Refusal.TheVariants.{NoSuchName, NameTaken, SameName}
use Rattle.datasketches.specs.declared.reply.Reply.{Reply}
use Rattle.datasketches.specs.declared.reply.Reply.TheVariants.{Done, Status, Image as Shown, Refused}
use Rattle.datasketches.specs.declared.sketch.Sketch.{Sketch}

-- ---- on named sketches

module _ {T : Type 0} where
  -- the reply is this rejection, and each name keeps its value
  abbrev pub Refuses : {V : Type 0} → Reply T → List (List ℕ × V) → Reply T → List (List ℕ × V) → Type 0
  Refuses refusal old reply new = (reply ≡ refusal) × AreSame old new

  -- the name now has a value of which `Good` holds. Or the reply is an error of which `Why` holds, and each name keeps its value
  abbrev pub Stores :
      {V : Type 0} → (V → Type 0) → (ErrorValue → Type 0) → List ℕ → List (List ℕ × V) → Reply T → List (List ℕ × V) → Type 0
  Stores {V} Good Why name old reply new =
      ((value : V) × (reply ≡ Done) × Good value × Puts name value old new) ⊎ ((e : ErrorValue) × Why e × Refuses (refused e) old reply new)

  -- the step is done on the sketch of the name, or the reply is `NoSuchName` if there is none
  abbrev pub OnSketch :
      (Sketch T → Reply T → Sketch T → Type 0) → List ℕ →
      List (List ℕ × Sketch T) → Reply T → List (List ℕ × Sketch T) → Type 0
  OnSketch DoesThis name old reply new =
      MatchOption (at_name name old)
      (Refuses (Refused NoSuchName) old reply new)
      (λ sketch. (after : Sketch T) × DoesThis sketch reply after × Puts name after old new)

module _ {T : Type 0} (eq : T → T → Bool) where
  -- the shape has no fault, and the sketch is the empty one of the shape under the key, which stands for a new history
  pub record IsCreated (key : TableKey) (shape : Shape) (sketch : Sketch T) : Type 0 where
    pub accepted : fault_of shape ≡ None
    pub empty : sketch ≡ empty_sketch key shape
    pub stands : StandsFor eq sketch (begun shape)

  -- a sketch is created if the name is free and the shape has no fault. The error is the fault, or `NoMemory` if there is none.
  -- An error changes nothing
  abbrev pub Creates : TableKey → Shape → List ℕ → List (List ℕ × Sketch T) → Reply T → List (List ℕ × Sketch T) → Type 0
  Creates key shape name old reply new =
      MatchOption (at_name name old)
      (Stores (IsCreated key shape) (λ e. e ≡ refusal_of (fault_of shape)) name old reply new)
      (λ _. Refuses (Refused NameTaken) old reply new)

  -- the sketch `from` is combined into `sketch`. If both have the same name, the reply is `SameName` and nothing changes
  pub record JoinsApart (join : Join) (into other : List ℕ) (sketch from : Sketch T) (old : List (List ℕ × Sketch T))
      (reply : Reply T) (new : List (List ℕ × Sketch T)) : Type 0 where
    pub itself : into ≡ other → Refuses (Refused SameName) old reply new
    pub two : into ≢ other → (after : Sketch T)
        × DoesWith eq (Joins eq join from) (joined join) from sketch reply after × Puts into after old new

  -- the sketch of `other` is combined into that of `into`. If a name has no sketch, the reply is `NoSuchName` and nothing changes
  abbrev pub JoinsNamed :
      Join → List ℕ → List ℕ → List (List ℕ × Sketch T) → Reply T → List (List ℕ × Sketch T) → Type 0
  JoinsNamed join into other old reply new =
      MatchOption (at_name into old)
      (Refuses (Refused NoSuchName) old reply new)
      (λ sketch. MatchOption (at_name other old)
      (Refuses (Refused NoSuchName) old reply new)
      (λ from. JoinsApart join into other sketch from old reply new))

-- ---- on a session

module _ {T : Type 0} where
  -- the step is done on the session's sketches. Each image and the keys are unchanged
  abbrev pub OnSketches :
      (List (List ℕ × Sketch T) → Reply T → List (List ℕ × Sketch T) → Type 0) →
      SessionState T → Reply T → SessionState T → Type 0
  OnSketches DoesThis old reply new = DoesThis old.sketches reply new.sketches × KeepsImages old new

  -- the reply is what `Says` states of the sketch of the name, or `NoSuchName` if there is none. The session is unchanged
  abbrev pub Answers : (Sketch T → Reply T → Type 0) → List ℕ → SessionState T → Reply T → SessionState T → Type 0
  Answers Says name old reply new =
      IsUnchanged old new
      × MatchOption (at_name name old.sketches) (reply ≡ Refused NoSuchName) (λ sketch. Says sketch reply)

  -- the reply has a copy of the image's bytes, or allocation failed
  abbrev pub ShowsBytes : Image → Reply T → Type 0
  ShowsBytes image reply =
      ((bytes : Vec ℕ Global) × (reply ≡ Shown bytes) × (bytes.items ≡ image.bytes)) ⊎ (reply ≡ refused no_memory)

  -- the reply has the bytes of the image of the name, or is `NoSuchName` if there is none. The session is unchanged
  abbrev pub ShowsImage : List ℕ → SessionState T → Reply T → SessionState T → Type 0
  ShowsImage name old reply new =
      IsUnchanged old new
      × MatchOption (at_name name old.images) (reply ≡ Refused NoSuchName) (λ image. ShowsBytes image reply)

  -- `Makes` holds of the source if it exists and the other name is free. Otherwise the reply is `NoSuchName` or `NameTaken`, and
  -- the session is unchanged
  abbrev pub MakesFrom :
      {V W : Type 0} → Option V → Option W → (V → Type 0) → SessionState T → Reply T → SessionState T → Type 0
  MakesFrom source taken Makes old reply new =
      MatchOption source
      (IsUnchanged old new × (reply ≡ Refused NoSuchName))
      (λ value. MatchOption taken
      (Makes value)
      (λ _. IsUnchanged old new × (reply ≡ Refused NameTaken)))

module _ {T C : Type 0} (codec : Codec C) (content : T → C) where
  -- the name now has an image of the sketch, or an error left all images unchanged. Sketches and the keys are unchanged
  pub record Writes (sketch : Sketch T) (name : List ℕ) (old : SessionState T) (reply : Reply T) (new : SessionState T)
      : Type 0 where
    pub sketches : AreSame old.sketches new.sketches
    pub keys : new.keys ≡ old.keys
    pub outcome : Stores (λ (image : Image). IsWrittenBy codec content sketch image.kind image.bytes)
        (IsWriteRefusal codec content sketch) name old.images reply new.images

  -- the sketch of the name is saved if it exists and the image's name is free
  abbrev pub Saves : List ℕ → List ℕ → SessionState T → Reply T → SessionState T → Type 0
  Saves name image old reply new =
      MakesFrom (at_name name old.sketches) (at_name image old.images) (λ sketch. Writes sketch image old reply new)
      old reply new

module _ {T C : Type 0} (eq : T → T → Bool) (codec : Codec C) (content : T → C) where
  -- the sketch was read from the image, stands for what was saved, and has the key
  pub record IsRestored (key : TableKey) (image : Image) (sketch : Sketch T) : Type 0 where
    pub read : IsReadFrom codec content image.kind image.bytes sketch
    pub stands : GivesBack eq codec content image.kind image.bytes sketch
    pub keyed : IsUnder key sketch

  -- the name now has the restored sketch, or an error left all sketches unchanged. Images and the keys are unchanged
  pub record Reads (image : Image) (name : List ℕ) (old : SessionState T) (reply : Reply T) (new : SessionState T)
      : Type 0 where
    pub rest : KeepsImages old new
    pub outcome : Stores (IsRestored old.keys.table image) (IsReadRefusal codec image.kind image.bytes) name old.sketches reply new.sketches

  -- the image of the name is restored if it exists and the sketch's name is free
  abbrev pub Restores : List ℕ → List ℕ → SessionState T → Reply T → SessionState T → Type 0
  Restores image name old reply new =
      MakesFrom (at_name image old.images) (at_name name old.sketches) (λ found. Reads found name old reply new)
      old reply new

module _ {T C : Type 0} (slot : ℕ) (eq : T → T → Bool) (codec : Codec C) (content : T → C) where
  -- the sketch was read from the image within the limit, takes no more than that, stands for the image's histories, restored,
  -- and has the key
  pub record IsLoaded (key : TableKey) (kind : ImageKind) (bytes : List ℕ) (max_bytes : ℕ) (sketch : Sketch T) : Type 0 where
    pub read : IsReadFrom codec content kind bytes sketch
    pub stands : GivesBack eq codec content kind bytes sketch
    pub keyed : IsUnder key sketch
    pub within : TakesWithin slot codec content max_bytes sketch
    pub accepted : load_fault slot codec max_bytes kind bytes ≡ None

  -- the name now has the loaded sketch, or an error left all sketches unchanged. Images and the keys are unchanged
  pub record Brings (kind : ImageKind) (bytes : List ℕ) (max_bytes : ℕ) (name : List ℕ) (old : SessionState T) (reply : Reply T)
      (new : SessionState T) : Type 0 where
    pub rest : KeepsImages old new
    pub outcome : Stores (IsLoaded old.keys.table kind bytes max_bytes) (IsLoadRefusal slot codec max_bytes kind bytes) name
        old.sketches reply new.sketches

  -- an untrusted image is loaded if the sketch's name is free
  abbrev pub Loads : ImageKind → List ℕ → ℕ → List ℕ → SessionState T → Reply T → SessionState T → Type 0
  Loads kind bytes max_bytes name old reply new =
      MatchOption (at_name name old.sketches)
      (Brings kind bytes max_bytes name old reply new)
      (λ _. IsUnchanged old new × (reply ≡ Refused NameTaken))

module _ {T : Type 0} (eq : T → T → Bool) (input : T → List (List ℕ)) where
  -- the sketch and the histories that it stands for are changed, or an error leaves them unchanged
  abbrev pub Alters : Change T → Sketch T → Reply T → Sketch T → Type 0
  Alters change = Does eq (Changes eq input change) (changed input change)

  -- the sketch of the name is changed if it exists
  abbrev pub ChangesNamed : Change T → List ℕ → List (List ℕ × Sketch T) → Reply T → List (List ℕ × Sketch T) → Type 0
  ChangesNamed change name = OnSketch (Alters change) name

module _ {T C : Type 0} (slot : ℕ) (eq : T → T → Bool) (input : T → List (List ℕ)) (codec : Codec C)
    (content : T → C) where
  -- the effect of one action
  abbrev pub Performs : SessionState T → Action T → Reply T → SessionState T → Type 0
  Performs old (action.Create name shape) reply new = OnSketches (Creates eq old.keys.table shape name) old reply new
  Performs old (action.Alter name change) reply new = OnSketches (ChangesNamed eq input change name) old reply new
  Performs old (action.Combine into other join) reply new = OnSketches (JoinsNamed eq join into other) old reply new
  Performs old (action.Save name image) reply new = Saves codec content name image old reply new
  Performs old (action.Restore image name) reply new = Restores eq codec content image name old reply new
  Performs old (action.Load name kind bytes max_bytes) reply new =
      Loads slot eq codec content kind bytes max_bytes name old reply new
  Performs old (action.ShowImage image) reply new = ShowsImage image old reply new
  Performs old (action.Ask name item) reply new = Answers (Tells eq input item) name old reply new
  Performs old (action.GetStatus name) reply new = Answers (λ sketch r. r ≡ Status (status_of sketch)) name old reply new
  Performs old (action.ListRows name error_type threshold) reply new = Answers (Lists eq error_type threshold) name old reply new

  -- the effect of one command: that of its action
  abbrev pub Step : SessionState T → Command T → Reply T → SessionState T → Type 0
  Step old command reply new = Performs old (action_of command) reply new

  -- the effect of the commands in turn, each with its reply
  abbrev pub Run : SessionState T → List (Command T) → List (Reply T) → SessionState T → Type 0
  Run old [] [] new = new ≡ old
  Run old (command ∷ commands) (reply ∷ replies) new =
      (mid : SessionState T) × Step old command reply mid × Run mid commands replies new
  Run old _ _ new = ⊥
