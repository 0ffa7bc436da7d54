-- What becomes of a filter that is joined with another.
use Rattle.std.proofs.Common.{◌≡◌, Result, Ok, Err, refl, ◌∙◌, ap}
use Rattle.std.specs.Prelude.{◌↔◌, ⊤, IsOk, IsErrAnd}
use Rattle.std.proofs.lemmas.Bool.{false≢true}
use Rattle.std.proofs.lemmas.Result.{err_from_is_err_and}
use Rattle.sketch_base.specs.declared.fault.Fault.TheVariants.{Mismatch}
use Rattle.sketch_base.specs.Errors.{ErrorValue, invalid_argument}
use Rattle.sketch_bloom.specs.State.{FilterState, IsCompatible}
use Rattle.datasketches.specs.declared.reply.Refusal.{Refusal}
use Rattle.datasketches.specs.declared.reply.Refusal.TheVariants.{Call}
use Rattle.datasketches.specs.declared.reply.Reply.TheVariants.{Done, Refused}
use Rattle.datasketches.specs.declared.sketch.Sketch.TheVariants.{Bloom}
use Rattle.datasketches.specs.Joining.{JoinsFilter}
use Rattle.datasketches.specs.Replies.{done_or, Becomes}

pub filter_joined : {T : Type 0} (joined_filter : FilterState → FilterState → FilterState) (other old new : FilterState) →
    (IsOk {T = ⊤} {E = ErrorValue} (Ok tt) ↔ IsCompatible old other) → new ≡ joined_filter old other → Becomes {T = T} Bloom (JoinsFilter joined_filter other old) Done (Bloom new)
filter_joined joined_filter other old new accepted ok = (new, record { mismatch = λ apart. absurd (apart (accepted.0 refl)); joined = λ _. (refl, ok) }, refl)

pub filter_refused : {T : Type 0} (joined_filter : FilterState → FilterState → FilterState) (other old new : FilterState) (result : Result ⊤ Refusal) (error : ErrorValue) →
    IsErrAnd result (λ refusal. refusal ≡ Call error) → error ≡ invalid_argument Mismatch → (IsOk {T = ⊤} (Err error) ↔ IsCompatible old other) → new ≡ old → Becomes {T = T} Bloom (JoinsFilter joined_filter other old) (done_or result) (Bloom new)
filter_refused joined_filter other old new result error from refused accepted err =
    let p = err_from_is_err_and result from in
    (new, record { mismatch = λ _. (ap done_or p.1 ∙ ap Refused (p.2 ∙ ap Call refused), err); joined = λ same. absurd (false≢true (accepted.1 same)) }, refl)
