-- What a session fits after a command, and after a run.
use Rattle.std.proofs.Common.{◌≡◌, ℕ, Bool, true, List, [], ◌∷◌, ◌++◌, inl, inr, refl, sym, ◌∙◌, ap, subst, append_assoc, append-nil, length, arith, ◌≤◌}
use Rattle.std.proofs.lemmas.Bool.{false≢true}
use Rattle.std.proofs.lemmas.List.{length-append}
use Rattle.sketch_frequencies.specs.Items.{Codec}
use Rattle.datasketches.specs.Actions.{action_of, Action, Action as action}
use Rattle.datasketches.specs.SessionStandsFor.{SessionStandsFor}
use Rattle.datasketches.specs.Hashing.{HasOneKey}
use Rattle.datasketches.specs.Histories.{History, Assignment, stated_shape, stranger_of, after_action, after_action_told, after_one, after_one_told, after, after_told}
use Rattle.datasketches.specs.Histories.History.{OfStranger}
use Rattle.datasketches.specs.Images.{IsImageOf}
use Rattle.datasketches.specs.Loading.{IsActionTold, IsTold, AreTold}
use Rattle.datasketches.specs.Performed.{Performed}
use Rattle.datasketches.specs.Replies.{is_refused}
use Rattle.datasketches.specs.Running.{Midst}
use Rattle.datasketches.specs.KeysKept.{keys_kept}
use Rattle.datasketches.specs.State.{SessionState, IsUnchanged}
use Rattle.datasketches.specs.Steps.{Performs, Step, Run}
use Rattle.datasketches.specs.declared.command.Command.{Command}
use Rattle.datasketches.specs.declared.image_kind.ImageKind.{ImageKind}
use Rattle.datasketches.specs.declared.image_kind.ImageKind.TheVariants as kind
use Rattle.datasketches.specs.declared.reply.Reply.{Reply}
use Rattle.datasketches.proofs.Fitting.{Outcome, outcome_of, unchanged_fits}
use Rattle.datasketches.proofs.Hashing.{one_key_kept}

module _ {T C : Type 0} (eq : T → T → Bool) (codec : Codec C) (content : T → C) where
  -- any image states a shape
  of_stranger : (kind : ImageKind) (bytes : List ℕ) → IsImageOf eq codec content kind bytes (OfStranger (stated_shape kind bytes))
  of_stranger kind.Frequent bytes = inr refl
  of_stranger (kind.CountI64 seed) bytes = tt
  of_stranger (kind.CountU64 seed) bytes = tt
  of_stranger kind.Bloom bytes = inr refl

  pub stranger_told : (action : Action T) → IsActionTold eq codec content action (stranger_of action)
  stranger_told (action.Load name kind bytes max_bytes) = of_stranger kind bytes
  stranger_told _ = tt

  nothing_told : (commands : List (Command T)) → AreTold eq codec content commands []
  nothing_told [] = tt
  nothing_told (command ∷ commands) = tt

-- ---- one action, one command, and a run

module _ {T C : Type 0} (slot : ℕ) (eq : T → T → Bool) (input : T → List (List ℕ)) (codec : Codec C) (content : T → C) where
  -- what a session fitted, it fits after an action, with what the action made of it
  fits_by : (action : Action T) (loaded : History T) (reply : Reply T) (old new : SessionState T) (a : Assignment T) → SessionStandsFor eq codec content old a → IsActionTold eq codec content action loaded → Outcome slot eq input codec content action reply old new → SessionStandsFor eq codec content new (after_action_told input a action loaded reply)
  fits_by action loaded reply old new a fits told (inl (r, same)) = rw r (unchanged_fits eq codec content old new a fits same)
  fits_by action loaded reply old new a fits told (inr (r, accepted)) = rw r (accepted a loaded fits told)

  pub action_fits_told : (action : Action T) (loaded : History T) (reply : Reply T) (old new : SessionState T) (a : Assignment T) → SessionStandsFor eq codec content old a → IsActionTold eq codec content action loaded → Performs slot eq input codec content old action reply new → SessionStandsFor eq codec content new (after_action_told input a action loaded reply)
  action_fits_told action loaded reply old new a fits told step = fits_by action loaded reply old new a fits told (outcome_of slot eq input codec content action reply old new step)

  pub action_fits : (action : Action T) (reply : Reply T) (old new : SessionState T) (a : Assignment T) → SessionStandsFor eq codec content old a → Performs slot eq input codec content old action reply new → SessionStandsFor eq codec content new (after_action input a action reply)
  action_fits action reply old new a fits step = action_fits_told action (stranger_of action) reply old new a fits (stranger_told eq codec content action) step

  -- an action that was refused changed nothing
  same_by : (action : Action T) (reply : Reply T) (old new : SessionState T) → is_refused reply ≡ true → Outcome slot eq input codec content action reply old new → IsUnchanged old new
  same_by action reply old new r (inl (_, same)) = same
  same_by action reply old new r (inr (not, accepted)) = absurd (false≢true (sym not ∙ r))

  pub action_same : (action : Action T) (reply : Reply T) (old new : SessionState T) → is_refused reply ≡ true → Performs slot eq input codec content old action reply new → IsUnchanged old new
  action_same action reply old new r step = same_by action reply old new r (outcome_of slot eq input codec content action reply old new step)

  -- so the clauses of a session's call follow from what it did
  pub performed : (action : Action T) (old new : SessionState T) (reply : Reply T) → Performs slot eq input codec content old action reply new → Performed (record { slot = slot; eq = eq; input = input; codec = codec; content = content }) action old reply new
  performed action old new reply step = record {
    step = step;
    fits = λ a fits. action_fits action reply old new a fits step;
    told = λ a loaded fits told. action_fits_told action loaded reply old new a fits told step;
    keys = keys_kept slot eq input codec content action reply old new step;
    keyed = one_key_kept slot eq input codec content action reply old new step;
    refused = λ r. action_same action reply old new r step;
  }

  -- the same of a command
  pub step_fits_told : (command : Command T) (loaded : History T) (reply : Reply T) (old new : SessionState T) (a : Assignment T) → SessionStandsFor eq codec content old a → IsTold eq codec content command loaded → Step slot eq input codec content old command reply new → SessionStandsFor eq codec content new (after_one_told input a command loaded reply)
  step_fits_told command loaded reply old new a fits told step = action_fits_told (action_of command) loaded reply old new a fits told step

  pub step_fits : (command : Command T) (reply : Reply T) (old new : SessionState T) (a : Assignment T) → SessionStandsFor eq codec content old a → Step slot eq input codec content old command reply new → SessionStandsFor eq codec content new (after_one input a command reply)
  step_fits command reply old new a fits step = action_fits (action_of command) reply old new a fits step

  -- a run of commands
  pub run_fits_told : (commands : List (Command T)) (loaded : List (History T)) (replies : List (Reply T)) (old new : SessionState T) (a : Assignment T) → SessionStandsFor eq codec content old a → AreTold eq codec content commands loaded → Run slot eq input codec content old commands replies new → SessionStandsFor eq codec content new (after_told input a commands loaded replies)
  run_fits_told [] loaded [] old new a fits told run = subst (λ (s : SessionState T). SessionStandsFor eq codec content s a) (sym run) fits
  run_fits_told [] loaded (reply ∷ replies) old new a fits told run = absurd run
  run_fits_told (command ∷ commands) loaded [] old new a fits told run = absurd run
  run_fits_told (command ∷ commands) [] (reply ∷ replies) old new a fits told run =
      run_fits_told commands [] replies run.0 new (after_one_told input a command (stranger_of (action_of command)) reply) (step_fits command reply old run.0 a fits run.1) (nothing_told eq codec content commands) run.2
  run_fits_told (command ∷ commands) (history ∷ loaded) (reply ∷ replies) old new a fits told run =
      run_fits_told commands loaded replies run.0 new (after_one_told input a command history reply) (step_fits_told command history reply old run.0 a fits told.0 run.1) told.1 run.2

  -- where nothing is told, each is a stranger's
  untold : (commands : List (Command T)) (replies : List (Reply T)) (a : Assignment T) → after_told input a commands [] replies ≡ after input a commands replies
  untold [] replies a = refl
  untold (command ∷ commands) [] a = refl
  untold (command ∷ commands) (reply ∷ replies) a = untold commands replies (after_one input a command reply)

  pub run_fits : (commands : List (Command T)) (replies : List (Reply T)) (old new : SessionState T) (a : Assignment T) → SessionStandsFor eq codec content old a → Run slot eq input codec content old commands replies new → SessionStandsFor eq codec content new (after input a commands replies)
  run_fits commands replies old new a fits run =
      subst (λ (b : Assignment T). SessionStandsFor eq codec content new b) (untold commands replies a) (run_fits_told commands [] replies old new a fits (nothing_told eq codec content commands) run)

  pub run_keeps_keys : (commands : List (Command T)) (replies : List (Reply T)) (old new : SessionState T) → Run slot eq input codec content old commands replies new → new.keys ≡ old.keys
  run_keeps_keys [] [] old new run = ap (λ (s : SessionState T). s.keys) run
  run_keeps_keys [] (reply ∷ replies) old new run = absurd run
  run_keeps_keys (command ∷ commands) [] old new run = absurd run
  run_keeps_keys (command ∷ commands) (reply ∷ replies) old new run =
      run_keeps_keys commands replies run.0 new run.2 ∙ keys_kept slot eq input codec content (action_of command) reply old run.0 run.1

  pub run_has_one_key : (commands : List (Command T)) (replies : List (Reply T)) (old new : SessionState T) → Run slot eq input codec content old commands replies new → HasOneKey old → HasOneKey new
  run_has_one_key [] [] old new run one = subst (λ (s : SessionState T). HasOneKey s) (sym run) one
  run_has_one_key [] (reply ∷ replies) old new run one = absurd run
  run_has_one_key (command ∷ commands) [] old new run one = absurd run
  run_has_one_key (command ∷ commands) (reply ∷ replies) old new run one =
      run_has_one_key commands replies run.0 new run.2 (one_key_kept slot eq input codec content (action_of command) reply old run.0 run.1 one)

  -- ---- the loop of a run

  pub begins : (start : SessionState T) (commands rest : List (Command T)) (told : List (Reply T)) (room : ℕ) → rest ≡ commands → told ≡ [] → length commands ≤ room → Midst slot eq input codec content start start commands rest told room
  begins start commands rest told room whole none h = rw (whole, none) (record { run = λ replies end r. r; space = omega (arith, h) })

  pub goes_on : (start s t : SessionState T) (commands rest left : List (Command T)) (command : Command T) (told : List (Reply T)) (reply : Reply T) (room more : ℕ) →
      Midst slot eq input codec content start s commands rest told room → rest ≡ command ∷ left → Step slot eq input codec content s command reply t → more ≡ room → Midst slot eq input codec content start t commands left (told ++ reply ∷ []) more
  goes_on start s t commands rest left command told reply room more m e step same = record {
    run = λ replies end r. rw append_assoc (m.run (reply ∷ replies) end (rw e (t, step, r)));
    space = omega (arith, length-append told (reply ∷ []), ap length e, m.space, same);
  }

  pub ends : (start s : SessionState T) (commands rest : List (Command T)) (told : List (Reply T)) (room : ℕ) → Midst slot eq input codec content start s commands rest told room → rest ≡ [] → Run slot eq input codec content start commands told s
  ends start s commands rest told room m e = rw append-nil at (m.run [] s (rw e refl))

pub nothing_left : {X : Type 0} (n : ℕ) (xs : List X) → n ≡ length xs → n ≡ 0 → xs ≡ []
nothing_left n [] h k = refl
nothing_left n (x ∷ xs) h k = absurd (omega arith)
