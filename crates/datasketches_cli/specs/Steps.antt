-- The state of the program, and the effect of each request on it.
use Rattle.std.specs.Prelude.{◌≡◌, ℕ, List, Option, Some, None, Result, Ok, Err, ⊤}
use Rattle.std.specs.Str.{bytes_eq}
use Rattle.std.specs.String.{string_bytes, string_eq}
use Rattle.datasketches.specs.ErrorType.{ErrorType}
use Rattle.datasketches.specs.Items.{text_codec}
use Rattle.datasketches.specs.Actions.{Action}
use Rattle.datasketches.specs.Actions as action
use Rattle.datasketches.specs.Keyed.{PerformedByKey}
use Rattle.datasketches.specs.Replies.{done_or}
use Rattle.datasketches.specs.State.{SessionKeys, SessionState, nothing_stored}
use Rattle.datasketches.specs.Steps.{Performs}
use Rattle.datasketches.specs.TableKey.{TableKey}
use Rattle.datasketches.specs.declared.reply.Refusal.{Refusal}
use Rattle.datasketches.specs.declared.reply.Refusal.TheVariants.{NoSuchName, NameTaken, Call}
use Rattle.datasketches.specs.declared.reply.Reply.{Reply}
use Rattle.datasketches.specs.declared.reply.Reply.TheVariants.{Refused}
use Rattle.heavy_windows.specs.Calls.{IsMade, IsAddition, IsTurn, IsReport}
use Rattle.heavy_windows.specs.Errors.{ErrorValue}
use Rattle.heavy_windows.specs.State.{WindowsState}
use Rattle.heavy_windows.specs.declared.report.Report.{Report}
use Rattle.datasketches_cli.specs.Requests.{Request, Act, OpenWindows, AddTo, TurnOf, ReportOf}
use Rattle.datasketches_cli.specs.Answers.{Answer, Replied, Reported}
use Rattle.datasketches_cli.specs.declared.state.State.{State}
use Rattle.datasketches_cli.specs.Texts.{Text, text_input, text_items, text_slot}

-- the windows of tenants, if any
abbrev pub Windows : Type 0
Windows = Option (WindowsState Text)

-- the state without sketches, images and windows, whose session has these keys
abbrev pub nothing_served : SessionKeys → State
nothing_served keys = record { session = nothing_stored keys; windows = None }

-- the result of a call, with its error as the rejection of the request
abbrev pub passed_on : {X : Type 0} → Result X ErrorValue → Result X Refusal
passed_on (Ok x) = Ok x
passed_on (Err e) = Err (Call e)

-- windows under the key are created if there are none. Otherwise the outcome is `NameTaken`
abbrev pub Opens : TableKey → ℕ → ℕ → Windows → Result ⊤ Refusal → Windows → Type 0
Opens key windows max_map_size (Some old) outcome new = (outcome ≡ Err NameTaken) × (new ≡ Some old)
Opens key windows max_map_size None (Ok _) new =
    (made : WindowsState Text) × IsMade windows max_map_size key (Ok made) × (new ≡ Some made)
Opens key windows max_map_size None (Err refusal) new =
    (e : ErrorValue) × IsMade {T = Text} windows max_map_size key (Err e) × (refusal ≡ Call e) × (new ≡ None)

-- a call is made on the windows. If there are none, the outcome is `NoSuchName`
abbrev pub OnWindows : (WindowsState Text → Result ⊤ ErrorValue → WindowsState Text → Type 0) → Windows → Result ⊤ Refusal → Windows → Type 0
OnWindows Does None outcome new = (outcome ≡ Err NoSuchName) × (new ≡ None)
OnWindows Does (Some old) outcome new =
    (result : Result ⊤ ErrorValue) × (after : WindowsState Text) × Does old result after × (outcome ≡ passed_on result) × (new ≡ Some after)

abbrev pub AddsTo : ℕ → ℕ → Text → Windows → Result ⊤ Refusal → Windows → Type 0
AddsTo tenant weight item = OnWindows (IsAddition string_eq tenant weight item)

abbrev pub TurnsFor : ℕ → Windows → Result ⊤ Refusal → Windows → Type 0
TurnsFor tenant = OnWindows (IsTurn string_eq tenant)

abbrev pub ReportsOn : ℕ → ErrorType → ℕ → Windows → Result (Report Text) Refusal → Type 0
ReportsOn tenant kind threshold None outcome = outcome ≡ Err NoSuchName
ReportsOn tenant kind threshold (Some windows) outcome =
    (result : Result (Report Text) ErrorValue) × IsReport string_eq tenant kind threshold windows result × (outcome ≡ passed_on result)

-- the `Answer` to a request for a report, which succeeded or was rejected
abbrev pub report_or_refused : Result (Report Text) Refusal → Answer
report_or_refused (Ok report) = Reported report
report_or_refused (Err refusal) = Replied (Refused refusal)

-- a request on windows had this outcome, and left the session unchanged
abbrev pub OfWindows : (Windows → Result ⊤ Refusal → Windows → Type 0) → State → Reply Text → State → Type 0
OfWindows Does old reply new =
    (outcome : Result ⊤ Refusal) × Does old.windows outcome new.windows × (reply ≡ done_or outcome)
    × (new.session ≡ old.session)

-- the session performed the action, with this reply
abbrev pub Did : Action Text → SessionState Text → Reply Text → SessionState Text → Type 0
Did action old reply new = Performs text_slot string_eq text_input text_codec string_bytes old action reply new

-- the same for the action on a string of these bytes
abbrev pub DidWith : List ℕ → (Text → Action Text) → SessionState Text → Reply Text → SessionState Text → Type 0
DidWith bytes action old reply new = (item : Text) × (string_bytes item ≡ bytes) × Did (action item) old reply new

-- the session performed the action, with a string of the bytes of its item, if any
abbrev pub DidSpelled : Action (List ℕ) → SessionState Text → Reply Text → SessionState Text → Type 0
DidSpelled (action.Create name shape) old reply new = Did (action.Create name shape) old reply new
DidSpelled (action.Alter name (action.Add item weight)) old reply new =
    DidWith item (λ x. action.Alter name (action.Add x weight)) old reply new
DidSpelled (action.Alter name (action.AddSigned item weight)) old reply new =
    DidWith item (λ x. action.Alter name (action.AddSigned x weight)) old reply new
DidSpelled (action.Alter name (action.Insert item)) old reply new =
    DidWith item (λ x. action.Alter name (action.Insert x)) old reply new
DidSpelled (action.Alter name action.Reset) old reply new = Did (action.Alter name action.Reset) old reply new
DidSpelled (action.Alter name action.Halve) old reply new = Did (action.Alter name action.Halve) old reply new
DidSpelled (action.Alter name (action.Decay n d)) old reply new = Did (action.Alter name (action.Decay n d)) old reply new
DidSpelled (action.Combine into other join) old reply new = Did (action.Combine into other join) old reply new
DidSpelled (action.Save name image) old reply new = Did (action.Save name image) old reply new
DidSpelled (action.Restore image name) old reply new = Did (action.Restore image name) old reply new
DidSpelled (action.Load name kind bytes max_bytes) old reply new = Did (action.Load name kind bytes max_bytes) old reply new
DidSpelled (action.ShowImage image) old reply new = Did (action.ShowImage image) old reply new
DidSpelled (action.Ask name item) old reply new = DidWith item (λ x. action.Ask name x) old reply new
DidSpelled (action.GetStatus name) old reply new = Did (action.GetStatus name) old reply new
DidSpelled (action.ListRows name kind threshold) old reply new = Did (action.ListRows name kind threshold) old reply new

-- a string of these bytes was added, or there was no memory for it
abbrev pub DidByBytes : List ℕ → List ℕ → ℕ → SessionState Text → Result ⊤ Refusal → SessionState Text → Type 0
DidByBytes name bytes weight old result new =
    PerformedByKey text_items name (λ x. bytes_eq bytes (string_bytes x)) weight
    old result new

-- the effect of a request. An action is a step of the session; the others are calls on the windows. New windows
-- have the key of the session's tables
abbrev pub ServingStep : State → Request → Answer → State → Type 0
ServingStep old (Act action) (Replied reply) new =
    DidSpelled action old.session reply new.session × (new.windows ≡ old.windows)
ServingStep old (OpenWindows windows max_map_size) (Replied reply) new =
    OfWindows (Opens old.session.keys.table windows max_map_size) old reply new
ServingStep old (AddTo tenant weight item) (Replied reply) new =
    (x : Text) × (string_bytes x ≡ item) × OfWindows (AddsTo tenant weight x) old reply new
ServingStep old (TurnOf tenant) (Replied reply) new = OfWindows (TurnsFor tenant) old reply new
ServingStep old (ReportOf tenant kind threshold) given new =
    (outcome : Result (Report Text) Refusal) × ReportsOn tenant kind threshold old.windows outcome
    × (given ≡ report_or_refused outcome) × (new ≡ old)
ServingStep old _ (Reported report) new = ⊥
