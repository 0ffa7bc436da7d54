-- Calls of a session, by the clauses of the calls beneath.
use Rattle.std.proofs.Common.{◌≡◌, ℕ, Bool, true, false, List, Option, Some, None, inl, inr, refl, sym, ◌∙◌, ap, subst}
use Rattle.std.specs.Prelude.{Result, Ok, Err, ⊤, IsTrue, IfErr, IfOk, IsOk, OnErr, OnOk}
use Rattle.std.specs.Global.{Global}
use Rattle.std.specs.declared.vec.Vec.{Vec}
use Rattle.std.specs.Option.{is_some}
use Rattle.counter_table.specs.declared.table_key.TableKey.{TableKey}
use Rattle.sketch_base.specs.Errors.{ErrorValue, no_memory, refusal_of}
use Rattle.sketch_base.specs.declared.map_state.MapState.{MapState}
use Rattle.sketch_frequencies.specs.Items.{Codec}
use Rattle.datasketches.specs.Actions.{Action, Change, Join, Shape}
use Rattle.datasketches.specs.Actions.Action.{Create, Alter, Combine, Save, Restore, ShowImage, Load}
use Rattle.datasketches.specs.Changing.{Changes}
use Rattle.datasketches.specs.Hashing.{IsUnder}
use Rattle.datasketches.specs.Histories.{begun, changed}
use Rattle.datasketches.specs.Images.{Image, IsWrittenBy, IsWriteRefusal, IsReadFrom, IsReadRefusal, IsLoadRefusal, GivesBack, TakesWithin, load_fault}
use Rattle.datasketches.specs.Actions.Change.{Add}
use Rattle.datasketches.specs.Keyed.{RunsOut, AddsNamed, PerformedByKey}
use Rattle.datasketches.specs.Names.{at_name, Puts, AreSame, Keeps}
use Rattle.datasketches.specs.Performed.{Performed}
use Rattle.datasketches.specs.Replies.{done_or}
use Rattle.datasketches.specs.Shapes.{empty_sketch, fault_of}
use Rattle.datasketches.specs.Stands.{StandsFor, Carries}
use Rattle.datasketches.specs.State.{SessionKeys, SessionState, IsUnchanged, KeepsImages}
use Rattle.datasketches.specs.Steps.{Alters, Stores, JoinsNamed, IsCreated, IsRestored, IsLoaded, Performs}
use Rattle.datasketches.specs.declared.image_kind.ImageKind.{ImageKind}
use Rattle.datasketches.specs.declared.reply.Refusal.{Refusal}
use Rattle.datasketches.specs.declared.reply.Refusal.TheVariants.{NameTaken, NoSuchName}
use Rattle.datasketches.specs.declared.reply.Reply.{Reply}
use Rattle.datasketches.specs.declared.reply.Reply.TheVariants.{Image as Shown, Refused}
use Rattle.datasketches.specs.declared.sketch.Sketch.{Sketch}
use Rattle.datasketches.specs.declared.sketch.Sketch.TheVariants.{Frequent, CountI64, CountU64, Bloom}
use Rattle.datasketches.proofs.Fitting.{put_again}
use Rattle.datasketches.proofs.Saved.{read_first, load_first}
use Rattle.datasketches.proofs.Stepping.{performed}
use Rattle.datasketches.proofs.Steps.{on_none, on_some, does}

-- a name that is not contained, and one that is
pub free : {V : Type 0} (found : Option V) (contained : Bool) → contained ≡ false → contained ≡ is_some found → found ≡ None
free None contained not is = refl
free (Some value) contained not is = cc

pub taken : {V : Type 0} (found : Option V) (contained : Bool) → contained ≡ true → contained ≡ is_some found → (value : V) × (found ≡ Some value)
taken None contained so is = cc
taken (Some value) contained so is = (value, refl)

-- the keys of a session in which a map of names changed, and hashes as before
hashes_sketches : (key : TableKey) (own left other : MapState) → left ≡ own → let keys : MapState → SessionKeys = λ h. record { table = key; sketch_names = h; image_names = other } in keys left ≡ keys own
hashes_sketches key own left other e = ap (λ (h : MapState). record { table = key; sketch_names = h; image_names = other }) e

pub image_hashed : {key : TableKey} {own left other : MapState} → left ≡ own → let keys : MapState → SessionKeys = λ h. record { table = key; sketch_names = other; image_names = h } in keys left ≡ keys own
image_hashed {key} {own} {left} {other} e = ap (λ (h : MapState). record { table = key; sketch_names = other; image_names = h }) e

pub sketches_changed : {T : Type 0} {old new : List (List ℕ × Sketch T)} {images : List (List ℕ × Image)} {key : TableKey} {own left other : MapState} → left ≡ own
    → let of_sketches : List (List ℕ × Sketch T) → MapState → SessionState T = λ sketches h. record { sketches = sketches; images = images; keys = record { table = key; sketch_names = h; image_names = other } } in
    KeepsImages (of_sketches old own) (of_sketches new left)
sketches_changed {T} {old} {new} {images} {key} {own} {left} {other} e = record { images = λ name. refl; keys = hashes_sketches key own left other e }

-- a value that was made, or not, under a free name
stored : {T V : Type 0} (Good : V → Type 0) (Why : ErrorValue → Type 0) (name : List ℕ) (old new : List (List ℕ × V)) (made : Result V ErrorValue) (result : Result ⊤ Refusal) → IfOk made Good → ((value : V) → Good value → Why no_memory) → IfErr made Why → Keeps name made old result new → Stores {T = T} Good Why name old (done_or result) new
stored Good Why name old new (Ok value) (Ok u) good memory why keeps = inl (value, refl, good, keeps)
stored Good Why name old new (Ok value) (Err e) good memory why keeps = inr (no_memory, memory value good, (ap Refused keeps.0, keeps.1))
stored Good Why name old new (Err error) (Ok u) good memory why keeps = absurd keeps
stored Good Why name old new (Err error) (Err e) good memory why keeps = inr (error, why, (ap Refused keeps.0, keeps.1))

module _ {T C : Type 0} (slot : ℕ) (eq : T → T → Bool) (input : T → List (List ℕ)) (codec : Codec C) (content : T → C) where
  abbrev Did : Action T → SessionState T → Reply T → SessionState T → Type 0
  Did action old reply new = Performed (record { slot = slot; eq = eq; input = input; codec = codec; content = content }) action old reply new

  -- a step of a session that is seen as its parts
  pub by_parts : (action : Action T) (seen old new : SessionState T) (reply : Reply T) → seen ≡ old → Performs slot eq input codec content seen action reply new → Did action old reply new
  by_parts action seen old new reply same step = performed slot eq input codec content action old new reply (subst (λ (s : SessionState T). Performs slot eq input codec content s action reply new) same step)

  -- the same if the session is unchanged
  pub by_parts_alone : (action : Action T) (seen old : SessionState T) (reply : Reply T) → seen ≡ old → Performs slot eq input codec content seen action reply seen → Did action old reply old
  by_parts_alone action seen old reply same step = performed slot eq input codec content action old old reply (subst (λ (s : SessionState T). Performs slot eq input codec content s action reply s) same step)

  same_end : (seen old new : SessionState T) → seen ≡ old → new ≡ seen → old ≡ new
  same_end seen old new same stays = sym (stays ∙ same)

  -- ---- a change

  pub altered : (change : Change T) (name : List ℕ) (seen old new : SessionState T) (result : Result ⊤ Refusal) (before after : Sketch T) → seen ≡ old → at_name name seen.sketches ≡ Some before →
      Alters eq input change before (done_or result) after → Puts name after seen.sketches new.sketches → KeepsImages seen new → Did (Alter name change) old (done_or result) new
  altered change name seen old new result before after same found does puts rest =
      by_parts (Alter name change) seen old new (done_or result) same
      (on_some (Alters eq input change) name seen.sketches new.sketches (done_or result) before after found does puts, rest)

  -- no sketch has the name
  pub altered_none : (change : Change T) (name : List ℕ) (seen old new : SessionState T) → seen ≡ old → new ≡ seen → at_name name seen.sketches ≡ None → Did (Alter name change) old (Refused NoSuchName) new
  altered_none change name seen old new same stays none =
      subst (λ (s : SessionState T). Did (Alter name change) old (Refused NoSuchName) s) (same_end seen old new same stays)
      (by_parts_alone (Alter name change) seen old (Refused NoSuchName) same (on_none (Alters eq input change) name seen.sketches none, record { images = λ _. refl; keys = refl }))

  -- the session is unchanged if the sketch is
  kept : (name : List ℕ) (seen old new : SessionState T) (sketch after : Sketch T) → seen ≡ old → at_name name seen.sketches ≡ Some sketch → after ≡ sketch → Puts name after seen.sketches new.sketches → KeepsImages seen new → IsUnchanged old new
  kept name seen old new sketch after same found e puts rest =
      subst (λ (s : SessionState T). IsUnchanged s new) same (record { sketches = put_again name sketch seen.sketches new.sketches found (subst (λ (k : Sketch T). Puts name k seen.sketches new.sketches) e puts); images = rest.images; keys = rest.keys })

  ran_out : (names : T → Bool) (weight : ℕ) (old : Sketch T) (result : Result ⊤ Refusal) (after : Sketch T) → RunsOut names weight old result → OnErr result (after ≡ old) → after ≡ old
  ran_out names weight old (Err refusal) after out err = err
  ran_out names weight old (Ok done) after out err = cc out.error

  pub altered_by_key : (name : List ℕ) (names : T → Bool) (weight : ℕ) (seen old new : SessionState T) (result : Result ⊤ Refusal) (before after : Sketch T) → seen ≡ old → at_name name seen.sketches ≡ Some before →
      AddsNamed eq input names weight before result after → ((x : T) → IsTrue (names x) → OnOk result (Carries eq (changed input (Add x weight)) before after)) → OnErr result (after ≡ before) → Puts name after seen.sketches new.sketches → KeepsImages seen new → PerformedByKey (record { slot = slot; eq = eq; input = input; codec = codec; content = content }) name names weight old result new
  altered_by_key name names weight seen old new result before after same found (inl (item, named, own)) carries err puts rest =
      inl (item, named, altered (Add item weight) name seen old new result before after same found (does eq (Changes eq input (Add item weight)) (changed input (Add item weight)) before after result own (carries item named) err) puts rest)
  altered_by_key name names weight seen old new result before after same found (inr out) carries err puts rest =
      let here = subst (λ (s : SessionState T). at_name name s.sketches ≡ Some before) same found in
      inr (kept name seen old new before after same found (ran_out names weight before result after out err) puts rest, rw here out)

  -- ---- two sketches

  pub combined : (join : Join) (into other : List ℕ) (seen old new : SessionState T) (reply : Reply T) → seen ≡ old → JoinsNamed eq join into other seen.sketches reply new.sketches → KeepsImages seen new → Did (Combine into other join) old reply new
  combined join into other seen old new reply same joins rest = by_parts (Combine into other join) seen old new reply same (joins, rest)

  -- ---- a new sketch

  pub creates_taken : (shape : Shape) (name : List ℕ) (seen old : SessionState T) → seen ≡ old → (sketch : Sketch T) × (at_name name seen.sketches ≡ Some sketch) → Did (Create name shape) old (Refused NameTaken) old
  creates_taken shape name seen old same (sketch, found) = by_parts_alone (Create name shape) seen old (Refused NameTaken) same (rw found (refl, λ _. refl), record { images = λ _. refl; keys = refl })

  created : (key : TableKey) (shape : Shape) (made : Result (Sketch T) ErrorValue) → IfOk made (λ sketch. sketch ≡ empty_sketch key shape) → IfOk made (λ sketch. StandsFor eq sketch (begun shape)) → (IsOk made → fault_of shape ≡ None) → IfOk made (IsCreated eq key shape)
  created key shape (Ok sketch) empty stands accepted = record { accepted = accepted refl; empty = empty; stands = stands }
  created key shape (Err error) empty stands accepted = tt

  pub creates : (shape : Shape) (name : List ℕ) (seen old new : SessionState T) (made : Result (Sketch T) ErrorValue) (result : Result ⊤ Refusal) → seen ≡ old → at_name name seen.sketches ≡ None →
      IfOk made (λ sketch. sketch ≡ empty_sketch seen.keys.table shape) → IfOk made (λ sketch. StandsFor eq sketch (begun shape)) → (IsOk made → fault_of shape ≡ None) → IfErr made (λ e. e ≡ refusal_of (fault_of shape)) →
      Keeps name made seen.sketches result new.sketches → KeepsImages seen new → Did (Create name shape) old (done_or result) new
  creates shape name seen old new made result same none empty stands accepted why keeps rest = by_parts (Create name shape) seen old new (done_or result) same (
    rw none (stored (IsCreated eq seen.keys.table shape) (λ e. e ≡ refusal_of (fault_of shape)) name seen.sketches new.sketches made result (created seen.keys.table shape made empty stands accepted) (λ sketch good. sym (ap refusal_of good.accepted)) why keeps),
    rest,
  )

  -- ---- an image that is saved

  write_memory : (sketch : Sketch T) → IsWriteRefusal codec content sketch no_memory
  write_memory (Frequent s) = inl refl
  write_memory (CountI64 s) = refl
  write_memory (CountU64 s) = refl
  write_memory (Bloom s) = refl

  pub saves_taken : (name image : List ℕ) (seen old : SessionState T) (sketch : Sketch T) → seen ≡ old → at_name name seen.sketches ≡ Some sketch → (saved : Image) × (at_name image seen.images ≡ Some saved) → Did (Save name image) old (Refused NameTaken) old
  saves_taken name image seen old sketch same found (saved, taken) =
      by_parts_alone (Save name image) seen old (Refused NameTaken) same (rw (found, taken) (record { sketches = λ _. refl; images = λ _. refl; keys = refl }, refl))

  -- a sketch that was written, or not, under a free name
  pub saves : (name image : List ℕ) (seen old new : SessionState T) (sketch : Sketch T) (made : Result Image ErrorValue) (result : Result ⊤ Refusal) → seen ≡ old → at_name name seen.sketches ≡ Some sketch → at_name image seen.images ≡ None →
      IfOk made (λ saved. IsWrittenBy codec content sketch saved.kind saved.bytes) → IfErr made (IsWriteRefusal codec content sketch) →
      Keeps image made seen.images result new.images → AreSame seen.sketches new.sketches → new.keys ≡ seen.keys → Did (Save name image) old (done_or result) new
  saves name image seen old new sketch made result same found none written why keeps sketches keys = by_parts (Save name image) seen old new (done_or result) same (rw (found, none) (record {
    sketches = sketches;
    keys = keys;
    outcome = stored (λ (saved : Image). IsWrittenBy codec content sketch saved.kind saved.bytes) (IsWriteRefusal codec content sketch) image seen.images new.images made result written (λ saved good. write_memory sketch) why keeps;
  }))

  -- ---- an image that is restored

  pub restores_taken : (image name : List ℕ) (seen old : SessionState T) (saved : Image) → seen ≡ old → at_name image old.images ≡ Some saved → (sketch : Sketch T) × (at_name name seen.sketches ≡ Some sketch) → Did (Restore image name) old (Refused NameTaken) old
  restores_taken image name seen old saved same found (sketch, taken) =
      let here = subst (λ (s : SessionState T). at_name image s.images ≡ Some saved) (sym same) found in
      by_parts_alone (Restore image name) seen old (Refused NameTaken) same (rw (here, taken) (record { sketches = λ _. refl; images = λ _. refl; keys = refl }, refl))

  read_back : (key : TableKey) (saved : Image) (made : Result (Sketch T) ErrorValue) → IfOk made (IsReadFrom codec content saved.kind saved.bytes) → IfOk made (GivesBack eq codec content saved.kind saved.bytes) → IfOk made (IsUnder key) → IfOk made (IsRestored eq codec content key saved)
  read_back key saved (Ok sketch) read back keyed = record { read = read; stands = back; keyed = keyed }
  read_back key saved (Err error) read back keyed = tt

  pub restores : (image name : List ℕ) (seen old new : SessionState T) (saved : Image) (made : Result (Sketch T) ErrorValue) (result : Result ⊤ Refusal) → seen ≡ old → at_name image old.images ≡ Some saved → at_name name seen.sketches ≡ None →
      IfOk made (IsReadFrom codec content saved.kind saved.bytes) → IfOk made (GivesBack eq codec content saved.kind saved.bytes) → IfOk made (IsUnder seen.keys.table) → IfErr made (IsReadRefusal codec saved.kind saved.bytes) →
      Keeps name made seen.sketches result new.sketches → KeepsImages seen new → Did (Restore image name) old (done_or result) new
  restores image name seen old new saved made result same found none read back keyed why keeps rest =
      let here = subst (λ (s : SessionState T). at_name image s.images ≡ Some saved) (sym same) found in
      by_parts (Restore image name) seen old new (done_or result) same (rw (here, none) (record {
        rest = rest;
        outcome = stored (IsRestored eq codec content seen.keys.table saved) (IsReadRefusal codec saved.kind saved.bytes) name seen.sketches new.sketches made result (read_back seen.keys.table saved made read back keyed) (λ sketch good. read_first codec content saved.kind saved.bytes sketch good.read) why keeps;
      }))

  -- ---- an image that is shown

  pub shows : (name : List ℕ) (old : SessionState T) (saved : Image) (bytes : Vec ℕ Global) → at_name name old.images ≡ Some saved → bytes.items ≡ saved.bytes → Did (ShowImage name) old (Shown bytes) old
  shows name old saved bytes found same = by_parts_alone (ShowImage name) old old (Shown bytes) refl (rw found (record { sketches = λ _. refl; images = λ _. refl; keys = refl }, inl (bytes, refl, same)))

  -- ---- an image that is loaded

  pub loads_taken : (kind : ImageKind) (bytes : List ℕ) (most : ℕ) (name : List ℕ) (seen old : SessionState T) → seen ≡ old → (sketch : Sketch T) × (at_name name seen.sketches ≡ Some sketch) → Did (Load name kind bytes most) old (Refused NameTaken) old
  loads_taken kind bytes most name seen old same (sketch, taken) =
      by_parts_alone (Load name kind bytes most) seen old (Refused NameTaken) same (rw taken (record { sketches = λ _. refl; images = λ _. refl; keys = refl }, refl))

  loaded : (key : TableKey) (kind : ImageKind) (bytes : List ℕ) (most : ℕ) (made : Result (Sketch T) ErrorValue) → IfOk made (IsReadFrom codec content kind bytes) → IfOk made (GivesBack eq codec content kind bytes) → IfOk made (IsUnder key) → IfOk made (TakesWithin slot codec content most) → (IsOk made → load_fault slot codec most kind bytes ≡ None) → IfOk made (IsLoaded slot eq codec content key kind bytes most)
  loaded key kind bytes most (Ok sketch) read back keyed within accepted = record { read = read; stands = back; keyed = keyed; within = within; accepted = accepted refl }
  loaded key kind bytes most (Err error) read back keyed within accepted = tt

  pub loads : (kind : ImageKind) (bytes : List ℕ) (most : ℕ) (name : List ℕ) (seen old new : SessionState T) (made : Result (Sketch T) ErrorValue) (result : Result ⊤ Refusal) → seen ≡ old → at_name name seen.sketches ≡ None →
      IfOk made (IsReadFrom codec content kind bytes) → IfOk made (GivesBack eq codec content kind bytes) → IfOk made (IsUnder seen.keys.table) → IfOk made (TakesWithin slot codec content most) → (IsOk made → load_fault slot codec most kind bytes ≡ None) → IfErr made (IsLoadRefusal slot codec most kind bytes) →
      Keeps name made seen.sketches result new.sketches → KeepsImages seen new → Did (Load name kind bytes most) old (done_or result) new
  loads kind bytes most name seen old new made result same none read back keyed within accepted why keeps rest = by_parts (Load name kind bytes most) seen old new (done_or result) same (rw none (record {
    rest = rest;
    outcome = stored (IsLoaded slot eq codec content seen.keys.table kind bytes most) (IsLoadRefusal slot codec most kind bytes) name seen.sketches new.sketches made result (loaded seen.keys.table kind bytes most made read back keyed within accepted) (λ sketch good. load_first slot codec content most kind bytes sketch good.read good.accepted) why keeps;
  }))
