-- The session keeps its keys while requests are served.
use Rattle.std.proofs.Common.{◌≡◌, ℕ, List, ap}
use Rattle.std.specs.String.{string_bytes, string_eq}
use Rattle.datasketches.specs.Items.{text_codec}
use Rattle.datasketches.specs.Actions.{Action}
use Rattle.datasketches.specs.Actions as action
use Rattle.datasketches.specs.State.{SessionState}
use Rattle.datasketches.specs.declared.reply.Reply.{Reply}
use Rattle.datasketches.specs.KeysKept.{keys_kept}
use Rattle.datasketches_cli.specs.Answers.{Answer, Replied, Reported}
use Rattle.datasketches_cli.specs.Requests.{Request, Act, OpenWindows, AddTo, TurnOf, ReportOf}
use Rattle.datasketches_cli.specs.Steps.{Did, DidWith, DidSpelled, ServingStep}
use Rattle.datasketches_cli.specs.Texts.{Text, text_input, text_slot}
use Rattle.datasketches_cli.specs.declared.state.State.{State}

did_keys : (action : Action Text) (old : SessionState Text) (reply : Reply Text) (new : SessionState Text) → Did action old reply new → new.keys ≡ old.keys
did_keys action old reply new did = keys_kept text_slot string_eq text_input text_codec string_bytes action reply old new did

with_keys : (bytes : List ℕ) (action : Text → Action Text) (old : SessionState Text) (reply : Reply Text) (new : SessionState Text) → DidWith bytes action old reply new → new.keys ≡ old.keys
with_keys bytes action old reply new (item, same, did) = did_keys (action item) old reply new did

spelled_keys : (action : Action (List ℕ)) (old : SessionState Text) (reply : Reply Text) (new : SessionState Text) → DidSpelled action old reply new → new.keys ≡ old.keys
spelled_keys (action.Create name shape) old reply new did = did_keys (action.Create name shape) old reply new did
spelled_keys (action.Alter name (action.Add item weight)) old reply new did = with_keys item (λ x. action.Alter name (action.Add x weight)) old reply new did
spelled_keys (action.Alter name (action.AddSigned item weight)) old reply new did = with_keys item (λ x. action.Alter name (action.AddSigned x weight)) old reply new did
spelled_keys (action.Alter name (action.Insert item)) old reply new did = with_keys item (λ x. action.Alter name (action.Insert x)) old reply new did
spelled_keys (action.Alter name action.Reset) old reply new did = did_keys (action.Alter name action.Reset) old reply new did
spelled_keys (action.Alter name action.Halve) old reply new did = did_keys (action.Alter name action.Halve) old reply new did
spelled_keys (action.Alter name (action.Decay n d)) old reply new did = did_keys (action.Alter name (action.Decay n d)) old reply new did
spelled_keys (action.Combine into other join) old reply new did = did_keys (action.Combine into other join) old reply new did
spelled_keys (action.Save name image) old reply new did = did_keys (action.Save name image) old reply new did
spelled_keys (action.Restore image name) old reply new did = did_keys (action.Restore image name) old reply new did
spelled_keys (action.Load name kind bytes max_bytes) old reply new did = did_keys (action.Load name kind bytes max_bytes) old reply new did
spelled_keys (action.ShowImage image) old reply new did = did_keys (action.ShowImage image) old reply new did
spelled_keys (action.Ask name item) old reply new did = with_keys item (λ x. action.Ask name x) old reply new did
spelled_keys (action.GetStatus name) old reply new did = did_keys (action.GetStatus name) old reply new did
spelled_keys (action.ListRows name kind threshold) old reply new did = did_keys (action.ListRows name kind threshold) old reply new did

pub serving_keys : (old : State) (request : Request) (answer : Answer) (new : State) → ServingStep old request answer new → new.session.keys ≡ old.session.keys
serving_keys old (Act action) (Replied reply) new (did, windows) = spelled_keys action old.session reply new.session did
serving_keys old (OpenWindows windows max_map_size) (Replied reply) new (outcome, does, is, same) = ap (λ (s : SessionState Text). s.keys) same
serving_keys old (AddTo tenant weight item) (Replied reply) new (x, bytes, (outcome, does, is, same)) = ap (λ (s : SessionState Text). s.keys) same
serving_keys old (TurnOf tenant) (Replied reply) new (outcome, does, is, same) = ap (λ (s : SessionState Text). s.keys) same
serving_keys old (ReportOf tenant kind threshold) given new (outcome, reports, is, same) = ap (λ (s : State). s.session.keys) same
serving_keys old _ (Reported report) new none = absurd none
