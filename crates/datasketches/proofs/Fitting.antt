-- What an action does to what a session stands for.
use Rattle.std.proofs.Common.{◌≡◌, ℕ, Bool, true, false, cond, List, Option, Some, None, inl, inr, refl, sym, ◌∙◌, ap, subst}
use Rattle.std.specs.Prelude.{◌⊎◌, ⊤}
use Rattle.std.specs.Option.{option_map}
use Rattle.std.specs.Str.{bytes_eq}
use Rattle.std.proofs.lemmas.Bool.{true≢false}
use Rattle.std.proofs.lemmas.Slice.Eq.{bytes_eq-Decides}
use Rattle.sketch_base.specs.Errors.{ErrorValue, refusal_of}
use Rattle.sketch_frequencies.specs.Items.{Codec}
use Rattle.datasketches.specs.Actions.{Action, Action as action, Change, Join, Shape}
use Rattle.datasketches.specs.SessionStandsFor.{Paired, SessionStandsFor}
use Rattle.datasketches.specs.Histories.{Assignment, History, accepted_told, put_at, begun, changed, joined, of_both, restored}
use Rattle.datasketches.specs.Images.{Image, IsSavedOf, IsImageOf, IsWrittenBy, IsReadRefusal, IsWriteRefusal, IsLoadRefusal}
use Rattle.datasketches.specs.Joining.{Joins}
use Rattle.datasketches.specs.Loading.{IsActionTold}
use Rattle.datasketches.specs.Names.{at_name, Puts, AreSame}
use Rattle.datasketches.specs.Replies.{is_refused}
use Rattle.datasketches.specs.Shapes.{fault_of}
use Rattle.datasketches.specs.Stands.{StandsFor, DoesWith}
use Rattle.datasketches.specs.State.{SessionState, IsUnchanged, KeepsImages}
use Rattle.datasketches.specs.Steps.{OnSketch, Alters, Stores, Creates, IsCreated, JoinsNamed, JoinsApart, MakesFrom, Writes, Reads, IsRestored, Loads, IsLoaded, Performs}
use Rattle.datasketches.specs.declared.image_kind.ImageKind.{ImageKind}
use Rattle.datasketches.specs.declared.reply.Reply.{Reply}
use Rattle.datasketches.specs.declared.sketch.Sketch.{Sketch}
use Rattle.datasketches.proofs.Saved.{saved_stands}

-- ---- values under names, related to histories under the same names

module _ {V H : Type 0} (R : V → H → Type 0) where
  -- each name has a value and a history that are related, or neither
  abbrev pub AllPaired : List (List ℕ × V) → (List ℕ → Option H) → Type 0
  AllPaired values histories = (name : List ℕ) → Paired R (at_name name values) (histories name)

  put_case : (t : Bool) (value : V) (h : H) (found : Option V) (history : Option H) → R value h → Paired R found history → Paired R (cond t (Some value) found) (cond t (Some h) history)
  put_case true value h found history r p = r
  put_case false value h found history r p = p

  -- a value and its history come under a name
  pub put_pair : (name : List ℕ) (value : V) (h : H) (old new : List (List ℕ × V)) (histories : List ℕ → Option H) → AllPaired old histories → R value h → Puts name value old new → AllPaired new (λ other. cond (bytes_eq name other) (Some h) (histories other))
  put_pair name value h old new histories fits r puts other = rw (puts other) (put_case (bytes_eq name other) value h (at_name other old) (histories other) r (fits other))

  -- nothing came
  pub same_pairs : (old new : List (List ℕ × V)) (histories : List ℕ → Option H) → AllPaired old histories → AreSame old new → AllPaired new histories
  same_pairs old new histories fits same name = rw (same name) (fits name)

-- the value of a name, put there once more
again_case : {V : Type 0} (name other : List ℕ) (t : Bool) (values : List (List ℕ × V)) (value : V) → bytes_eq name other ≡ t → at_name name values ≡ Some value → cond t (Some value) (at_name other values) ≡ at_name other values
again_case {V} name other true values value e found = sym found ∙ ap (λ (n : List ℕ). at_name n values) ((bytes_eq-Decides name other).0 e)
again_case name other false values value e found = refl

pub put_again : {V : Type 0} (name : List ℕ) (value : V) (old new : List (List ℕ × V)) → at_name name old ≡ Some value → Puts name value old new → AreSame old new
put_again name value old new found puts other = puts other ∙ again_case name other (bytes_eq name other) old value refl found

-- ---- a session after one name has another value

module _ {T C : Type 0} (eq : T → T → Bool) (codec : Codec C) (content : T → C) where
  -- nothing changed
  pub unchanged_fits : (old new : SessionState T) (a : Assignment T) → SessionStandsFor eq codec content old a → IsUnchanged old new → SessionStandsFor eq codec content new a
  unchanged_fits old new a fits same = record {
    sketches = same_pairs (StandsFor eq) old.sketches new.sketches a.sketches fits.sketches same.sketches;
    images = same_pairs (IsSavedOf eq codec content) old.images new.images a.images fits.images same.images;
  }

  -- a name has a sketch that stands for what `f` makes of a history
  with_sketch : {W : Type 0} (S : W → History T → Type 0) (f : History T → History T) (name : List ℕ) (before : W) (sketch : Sketch T) (history : Option (History T)) (old new : SessionState T) (a : Assignment T) → SessionStandsFor eq codec content old a →
      Paired S (Some before) history → ((h : History T) → S before h → StandsFor eq sketch (f h)) → Puts name sketch old.sketches new.sketches → KeepsImages old new → SessionStandsFor eq codec content new (record a { sketches = put_at name (option_map f history) a.sketches })
  with_sketch S f name before sketch (Some h) old new a fits pair carries puts rest = record {
    sketches = put_pair (StandsFor eq) name sketch (f h) old.sketches new.sketches a.sketches fits.sketches (carries h pair) puts;
    images = same_pairs (IsSavedOf eq codec content) old.images new.images a.images fits.images rest.images;
  }
  with_sketch S f name before sketch None old new a fits pair carries puts rest = absurd pair

  -- a name has a sketch that stands for the combination of two histories
  with_both : (join : Join) (into : List ℕ) (sketch from after : Sketch T) (g h : Option (History T)) (old new : SessionState T) (a : Assignment T) → SessionStandsFor eq codec content old a → Paired (StandsFor eq) (Some sketch) g → Paired (StandsFor eq) (Some from) h →
      ((g h : History T) → StandsFor eq sketch g → StandsFor eq from h → StandsFor eq after (joined join g h)) → Puts into after old.sketches new.sketches → KeepsImages old new → SessionStandsFor eq codec content new (record a { sketches = put_at into (of_both (joined join) g h) a.sketches })
  with_both join into sketch from after (Some g) (Some h) old new a fits p q carries puts rest = record {
    sketches = put_pair (StandsFor eq) into after (joined join g h) old.sketches new.sketches a.sketches fits.sketches (carries g h p q) puts;
    images = same_pairs (IsSavedOf eq codec content) old.images new.images a.images fits.images rest.images;
  }
  with_both join into sketch from after None h old new a fits p q carries puts rest = absurd p
  with_both join into sketch from after (Some g) None old new a fits p q carries puts rest = absurd q

  -- a name has an image of a sketch
  with_image : (image : List ℕ) (sketch : Sketch T) (saved : Image) (history : Option (History T)) (old new : SessionState T) (a : Assignment T) → SessionStandsFor eq codec content old a → Paired (StandsFor eq) (Some sketch) history →
      IsWrittenBy codec content sketch saved.kind saved.bytes → Puts image saved old.images new.images → AreSame old.sketches new.sketches → SessionStandsFor eq codec content new (record a { images = put_at image history a.images })
  with_image image sketch saved (Some h) old new a fits pair written puts sketches = record {
    sketches = same_pairs (StandsFor eq) old.sketches new.sketches a.sketches fits.sketches sketches;
    images = put_pair (IsSavedOf eq codec content) image saved h old.images new.images a.images fits.images (saved_stands eq codec content sketch saved.kind saved.bytes h written pair) puts;
  }
  with_image image sketch saved None old new a fits pair written puts sketches = absurd pair

-- ---- the outcome of each action

module _ {T C : Type 0} (slot : ℕ) (eq : T → T → Bool) (input : T → List (List ℕ)) (codec : Codec C) (content : T → C) where
  -- a rejected action changed nothing. After an accepted one the session stands for what the action made of each assignment
  abbrev pub Outcome : Action T → Reply T → SessionState T → SessionState T → Type 0
  Outcome action reply old new =
      ((is_refused reply ≡ true) × IsUnchanged old new)
      ⊎ ((is_refused reply ≡ false) × ((a : Assignment T) (loaded : History T) → SessionStandsFor eq codec content old a → IsActionTold eq codec content action loaded → SessionStandsFor eq codec content new (accepted_told input a action loaded)))

  -- a change
  altered_as : (change : Change T) (name : List ℕ) (sketch after : Sketch T) (r : Bool) (reply : Reply T) (old new : SessionState T) → is_refused reply ≡ r → at_name name old.sketches ≡ Some sketch →
      Alters eq input change sketch reply after → Puts name after old.sketches new.sketches → KeepsImages old new → Outcome (action.Alter name change) reply old new
  altered_as change name sketch after true reply old new r e does puts rest =
      inl (r, record { sketches = put_again name sketch old.sketches new.sketches e (subst (λ (s : Sketch T). Puts name s old.sketches new.sketches) (does.refused r) puts); images = rest.images; keys = rest.keys })
  altered_as change name sketch after false reply old new r e does puts rest = inr (
    r,
    λ a loaded fits told.
        let pair : Paired (StandsFor eq) (Some sketch) (a.sketches name) = rw e at (fits.sketches name) in
        with_sketch eq codec content (StandsFor eq) (changed input change) name sketch after (a.sketches name) old new a fits pair (does.carries r) puts rest,
  )

  alters : (change : Change T) (name : List ℕ) (found : Option (Sketch T)) (reply : Reply T) (old new : SessionState T) → at_name name old.sketches ≡ found →
      OnSketch (Alters eq input change) name old.sketches reply new.sketches → KeepsImages old new → Outcome (action.Alter name change) reply old new
  alters change name None reply old new e on rest = let done = rw e at on in inl (ap is_refused done.0, record { sketches = done.1; images = rest.images; keys = rest.keys })
  alters change name (Some sketch) reply old new e on rest = let done = rw e at on in altered_as change name sketch done.0 (is_refused reply) reply old new refl e done.1 done.2 rest

  -- a combination of two sketches
  joined_as : (join : Join) (into other : List ℕ) (sketch from after : Sketch T) (r : Bool) (reply : Reply T) (old new : SessionState T) → is_refused reply ≡ r → at_name into old.sketches ≡ Some sketch → at_name other old.sketches ≡ Some from →
      DoesWith eq (Joins eq join from) (joined join) from sketch reply after → Puts into after old.sketches new.sketches → KeepsImages old new → Outcome (action.Combine into other join) reply old new
  joined_as join into other sketch from after true reply old new r e f does puts rest =
      inl (r, record { sketches = put_again into sketch old.sketches new.sketches e (subst (λ (s : Sketch T). Puts into s old.sketches new.sketches) (does.refused r) puts); images = rest.images; keys = rest.keys })
  joined_as join into other sketch from after false reply old new r e f does puts rest = inr (
    r,
    λ a loaded fits told.
        let p : Paired (StandsFor eq) (Some sketch) (a.sketches into) = rw e at (fits.sketches into) in
        let q : Paired (StandsFor eq) (Some from) (a.sketches other) = rw f at (fits.sketches other) in
        with_both eq codec content join into sketch from after (a.sketches into) (a.sketches other) old new a fits p q (does.carries r) puts rest,
  )

  joins_as : (join : Join) (into other : List ℕ) (sketch from : Sketch T) (t : Bool) (reply : Reply T) (old new : SessionState T) → bytes_eq into other ≡ t → at_name into old.sketches ≡ Some sketch → at_name other old.sketches ≡ Some from →
      JoinsApart eq join into other sketch from old.sketches reply new.sketches → KeepsImages old new → Outcome (action.Combine into other join) reply old new
  joins_as join into other sketch from true reply old new t e f joins rest =
      let done = joins.itself ((bytes_eq-Decides into other).0 t) in
      inl (ap is_refused done.0, record { sketches = done.1; images = rest.images; keys = rest.keys })
  joins_as join into other sketch from false reply old new t e f joins rest =
      let done = joins.two (λ same. true≢false (sym ((bytes_eq-Decides into other).1 same) ∙ t)) in
      joined_as join into other sketch from done.0 (is_refused reply) reply old new refl e f done.1 done.2 rest

  combines : (join : Join) (into other : List ℕ) (found more : Option (Sketch T)) (reply : Reply T) (old new : SessionState T) → at_name into old.sketches ≡ found → at_name other old.sketches ≡ more →
      JoinsNamed eq join into other old.sketches reply new.sketches → KeepsImages old new → Outcome (action.Combine into other join) reply old new
  combines join into other None more reply old new e f joins rest = let done = rw e at joins in inl (ap is_refused done.0, record { sketches = done.1; images = rest.images; keys = rest.keys })
  combines join into other (Some sketch) None reply old new e f joins rest = let done = rw (e, f) at joins in inl (ap is_refused done.0, record { sketches = done.1; images = rest.images; keys = rest.keys })
  combines join into other (Some sketch) (Some from) reply old new e f joins rest = joins_as join into other sketch from (bytes_eq into other) reply old new refl e f (rw (e, f) at joins) rest

  -- a value that was stored under a name, or not
  stores : {V : Type 0} (Good : V → Type 0) (Why : ErrorValue → Type 0) (name : List ℕ) (values left : List (List ℕ × V)) (action : Action T) (reply : Reply T) (old new : SessionState T) → (AreSame values left → IsUnchanged old new) →
      ((value : V) → Good value → Puts name value values left → (a : Assignment T) (loaded : History T) → SessionStandsFor eq codec content old a → IsActionTold eq codec content action loaded → SessionStandsFor eq codec content new (accepted_told input a action loaded)) →
      Stores Good Why name values reply left → Outcome action reply old new
  stores Good Why name values left action reply old new same made (inl (value, reply_is, good, puts)) = inr (ap is_refused reply_is, made value good puts)
  stores Good Why name values left action reply old new same made (inr (error, why, (reply_is, kept))) = inl (ap is_refused reply_is, same kept)

  -- a new sketch
  creates : (shape : Shape) (name : List ℕ) (found : Option (Sketch T)) (reply : Reply T) (old new : SessionState T) → at_name name old.sketches ≡ found → Creates eq old.keys.table shape name old.sketches reply new.sketches → KeepsImages old new → Outcome (action.Create name shape) reply old new
  creates shape name (Some sketch) reply old new e step rest = let done = rw e at step in inl (ap is_refused done.0, record { sketches = done.1; images = rest.images; keys = rest.keys })
  creates shape name None reply old new e step rest =
      stores (IsCreated eq old.keys.table shape) (λ why. why ≡ refusal_of (fault_of shape)) name old.sketches new.sketches (action.Create name shape) reply old new (λ sketches. record { sketches = sketches; images = rest.images; keys = rest.keys })
      (λ sketch made puts a loaded fits told. with_sketch eq codec content (λ (u : ⊤). StandsFor eq sketch) (λ h. h) name tt sketch (Some (begun shape)) old new a fits made.stands (λ h stands. stands) puts rest) (rw e at step)

  -- something is made of what one name has, or nothing is
  makes_from : {V W : Type 0} (source : Option V) (taken : Option W) (Makes : V → Type 0) (action : Action T) (reply : Reply T) (old new : SessionState T) → ((value : V) → source ≡ Some value → Makes value → Outcome action reply old new) →
      MakesFrom source taken Makes old reply new → Outcome action reply old new
  makes_from None taken Makes action reply old new made (same, refusal) = inl (ap is_refused refusal, same)
  makes_from (Some value) (Some other) Makes action reply old new made (same, refusal) = inl (ap is_refused refusal, same)
  makes_from (Some value) None Makes action reply old new made done = made value refl done

  -- an image that is saved
  writes : (name image : List ℕ) (sketch : Sketch T) (reply : Reply T) (old new : SessionState T) → at_name name old.sketches ≡ Some sketch → Writes codec content sketch image old reply new → Outcome (action.Save name image) reply old new
  writes name image sketch reply old new e done =
      stores (λ (saved : Image). IsWrittenBy codec content sketch saved.kind saved.bytes) (IsWriteRefusal codec content sketch) image old.images new.images (action.Save name image) reply old new (λ images. record { sketches = done.sketches; images = images; keys = done.keys })
      (λ saved written puts a loaded fits told.
      let pair : Paired (StandsFor eq) (Some sketch) (a.sketches name) = rw e at (fits.sketches name) in
      with_image eq codec content image sketch saved (a.sketches name) old new a fits pair written puts done.sketches) done.outcome

  -- an image that is restored
  reads : (image name : List ℕ) (saved : Image) (reply : Reply T) (old new : SessionState T) → at_name image old.images ≡ Some saved → Reads eq codec content saved name old reply new → Outcome (action.Restore image name) reply old new
  reads image name saved reply old new e done =
      stores (IsRestored eq codec content old.keys.table saved) (IsReadRefusal codec saved.kind saved.bytes) name old.sketches new.sketches (action.Restore image name) reply old new (λ sketches. record { sketches = sketches; images = done.rest.images; keys = done.rest.keys })
      (λ sketch back puts a loaded fits told.
      let pair : Paired (IsSavedOf eq codec content) (Some saved) (a.images image) = rw e at (fits.images image) in
      with_sketch eq codec content (IsSavedOf eq codec content) restored name saved sketch (a.images image) old new a fits pair back.stands puts done.rest) done.outcome

  -- an image that is loaded
  loads : (kind : ImageKind) (bytes : List ℕ) (max_bytes : ℕ) (name : List ℕ) (found : Option (Sketch T)) (reply : Reply T) (old new : SessionState T) → at_name name old.sketches ≡ found → Loads slot eq codec content kind bytes max_bytes name old reply new → Outcome (action.Load name kind bytes max_bytes) reply old new
  loads kind bytes max_bytes name (Some sketch) reply old new e step = let done = rw e at step in inl (ap is_refused done.1, done.0)
  loads kind bytes max_bytes name None reply old new e step =
      let done = rw e at step in
      stores (IsLoaded slot eq codec content old.keys.table kind bytes max_bytes) (IsLoadRefusal slot codec max_bytes kind bytes) name old.sketches new.sketches (action.Load name kind bytes max_bytes) reply old new (λ sketches. record { sketches = sketches; images = done.rest.images; keys = done.rest.keys })
      (λ sketch brought puts a history fits told. with_sketch eq codec content (λ (u : ⊤). IsImageOf eq codec content kind bytes) restored name tt sketch (Some history) old new a fits told brought.stands puts done.rest) done.outcome

  -- a query
  tells : (action : Action T) (r : Bool) (reply : Reply T) (old new : SessionState T) → is_refused reply ≡ r → IsUnchanged old new → ((a : Assignment T) (loaded : History T) → accepted_told input a action loaded ≡ a) → Outcome action reply old new
  tells action true reply old new r same query = inl (r, same)
  tells action false reply old new r same query = inr (r, λ a loaded fits told. subst (SessionStandsFor eq codec content new) (sym (query a loaded)) (unchanged_fits eq codec content old new a fits same))

  pub outcome_of : (action : Action T) (reply : Reply T) (old new : SessionState T) → Performs slot eq input codec content old action reply new → Outcome action reply old new
  outcome_of (action.Create name shape) reply old new step = creates shape name (at_name name old.sketches) reply old new refl step.0 step.1
  outcome_of (action.Alter name change) reply old new step = alters change name (at_name name old.sketches) reply old new refl step.0 step.1
  outcome_of (action.Combine into other join) reply old new step = combines join into other (at_name into old.sketches) (at_name other old.sketches) reply old new refl refl step.0 step.1
  outcome_of (action.Save name image) reply old new step =
      makes_from (at_name name old.sketches) (at_name image old.images) (λ sketch. Writes codec content sketch image old reply new) (action.Save name image) reply old new (λ sketch e done. writes name image sketch reply old new e done) step
  outcome_of (action.Restore image name) reply old new step =
      makes_from (at_name image old.images) (at_name name old.sketches) (λ saved. Reads eq codec content saved name old reply new) (action.Restore image name) reply old new (λ saved e done. reads image name saved reply old new e done) step
  outcome_of (action.Load name kind bytes max_bytes) reply old new step = loads kind bytes max_bytes name (at_name name old.sketches) reply old new refl step
  outcome_of (action.ShowImage image) reply old new step = tells (action.ShowImage image) (is_refused reply) reply old new refl step.0 (λ a loaded. refl)
  outcome_of (action.Ask name item) reply old new step = tells (action.Ask name item) (is_refused reply) reply old new refl step.0 (λ a loaded. refl)
  outcome_of (action.GetStatus name) reply old new step = tells (action.GetStatus name) (is_refused reply) reply old new refl step.0 (λ a loaded. refl)
  outcome_of (action.ListRows name error_type threshold) reply old new step = tells (action.ListRows name error_type threshold) (is_refused reply) reply old new refl step.0 (λ a loaded. refl)
