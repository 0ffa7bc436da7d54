-- An action keeps the session's keys. No clause cites the lemmas. They are for the proofs here and in the crate above.
use Rattle.std.proofs.Common.{◌≡◌, ℕ, Bool, List, Option, Some, None, refl}
use Rattle.sketch_frequencies.specs.Items.{Codec}
use Rattle.datasketches.specs.Actions.{Action, Action as action}
use Rattle.datasketches.specs.Names.{at_name}
use Rattle.datasketches.specs.State.{SessionState, IsUnchanged}
use Rattle.datasketches.specs.Steps.{MakesFrom, Writes, Reads, Loads, Brings, Performs}
use Rattle.datasketches.specs.declared.image_kind.ImageKind.{ImageKind}
use Rattle.datasketches.specs.declared.reply.Reply.{Reply}
use Rattle.datasketches.specs.declared.sketch.Sketch.{Sketch}

module _ {T C : Type 0} (slot : ℕ) (eq : T → T → Bool) (input : T → List (List ℕ)) (codec : Codec C) (content : T → C) where
  -- what holds where nothing changed and where something was made holds in each case
  pub makes : {V W P : Type 0} (source : Option V) (taken : Option W) (Makes : V → Type 0) (reply : Reply T) (old new : SessionState T) → (IsUnchanged old new → P) → ((value : V) → Makes value → P) → MakesFrom source taken Makes old reply new → P
  makes None taken Makes reply old new same made (unchanged, refusal) = same unchanged
  makes (Some value) (Some other) Makes reply old new same made (unchanged, refusal) = same unchanged
  makes (Some value) None Makes reply old new same made done = made value done

  pub loads : {P : Type 0} (kind : ImageKind) (bytes : List ℕ) (max_bytes : ℕ) (name : List ℕ) (found : Option (Sketch T)) (reply : Reply T) (old new : SessionState T) → at_name name old.sketches ≡ found → (IsUnchanged old new → P) → (Brings slot eq codec content kind bytes max_bytes name old reply new → P) → Loads slot eq codec content kind bytes max_bytes name old reply new → P
  loads kind bytes max_bytes name (Some sketch) reply old new e same made step = same (rw e at step).0
  loads kind bytes max_bytes name None reply old new e same made step = made (rw e at step)

  pub keys_kept : (action : Action T) (reply : Reply T) (old new : SessionState T) → Performs slot eq input codec content old action reply new → new.keys ≡ old.keys
  keys_kept (action.Create name shape) reply old new step = step.1.keys
  keys_kept (action.Alter name change) reply old new step = step.1.keys
  keys_kept (action.Combine into other join) reply old new step = step.1.keys
  keys_kept (action.Save name image) reply old new step =
      makes (at_name name old.sketches) (at_name image old.images) (λ sketch. Writes codec content sketch image old reply new) reply old new (λ same. same.keys) (λ sketch done. done.keys) step
  keys_kept (action.Restore image name) reply old new step =
      makes (at_name image old.images) (at_name name old.sketches) (λ saved. Reads eq codec content saved name old reply new) reply old new (λ same. same.keys) (λ saved done. done.rest.keys) step
  keys_kept (action.Load name kind bytes max_bytes) reply old new step =
      loads kind bytes max_bytes name (at_name name old.sketches) reply old new refl (λ same. same.keys) (λ done. done.rest.keys) step
  keys_kept (action.ShowImage image) reply old new step = step.0.keys
  keys_kept (action.Ask name item) reply old new step = step.0.keys
  keys_kept (action.GetStatus name) reply old new step = step.0.keys
  keys_kept (action.ListRows name error_type threshold) reply old new step = step.0.keys
