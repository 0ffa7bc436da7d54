-- Items that a key names.
use Rattle.std.proofs.Common.{◌≡◌, ℕ, ◌+◌, ◌<◌, ◌≤◌, ◌^◌, Bool, true, List, inl, inr, refl, ◌∙◌, ap, arith}
use Rattle.std.specs.Prelude.{Result, Ok, Err, ⊤, IsOk, IsErrAnd, IsErrOf, IsTrue}
use Rattle.std.proofs.lemmas.Bool.{false≢true, false_from_ne_true, cases_eq, cases_lt}
use Rattle.std.proofs.lemmas.Result.{err_from_is_err_and}
use Rattle.counter_table.specs.Tables.{is_tracked_by_key}
use Rattle.sketch_base.specs.Errors.{ErrorValue, invalid_argument, no_memory}
use Rattle.sketch_base.specs.declared.fault.Fault.TheVariants.{WeightOverflow}
use Rattle.sketch_frequencies.specs.State.{FrequentState}
use Rattle.sketch_frequencies.specs.Steps.{StepsByKey}
use Rattle.datasketches.specs.Keyed.{AddsNamed}
use Rattle.datasketches.specs.Replies.{done_or, refused}
use Rattle.datasketches.specs.declared.reply.Refusal.{Refusal}
use Rattle.datasketches.specs.declared.reply.Refusal.TheVariants.{Call}
use Rattle.datasketches.specs.declared.reply.Reply.TheVariants.{Refused}
use Rattle.datasketches.specs.declared.sketch.Sketch.TheVariants.{Frequent}

same_error : {e f : ErrorValue} → IsErrOf {T = ⊤} (Err e) f → e ≡ f
same_error is = cc

-- an item of a key was added
pub accepted : {T : Type 0} (eq : T → T → Bool) (input : T → List (List ℕ)) (names : T → Bool) (x : T) (weight : ℕ) (old new : FrequentState T) → IsTrue (names x) → (weight ≡ 0 → IsOk {T = ⊤} {E = ErrorValue} (Ok tt) × (new ≡ old)) →
    (0 < weight → StepsByKey eq old names weight new) → (2 ^ 64 ≤ old.total + weight → IsErrOf {T = ⊤} (Ok tt) (invalid_argument WeightOverflow)) → AddsNamed eq input names weight (Frequent old) (Ok tt) (Frequent new)
accepted eq input names x weight old new named zero step overflow =
    elim (cases_eq weight 0) [
      | inl none ↦ inl (x, named, (new, record { nothing = λ _. (refl, (zero none).1); overflow = λ over. cc (overflow over); added = λ some room. absurd (omega (arith, none, some)) }, refl))
      | inr some ↦
          let s = step (omega (arith, some)) in
          inl (s.item, s.named, (new, record { nothing = λ none. absurd (some none); overflow = λ over. cc (overflow over); added = λ _ _. inl (refl, s.step) }, refl))
    ]

-- an item of a key was rejected
pub rejected : {T : Type 0} (eq : T → T → Bool) (input : T → List (List ℕ)) (names : T → Bool) (x : T) (weight : ℕ) (old new : FrequentState T) (result : Result ⊤ Refusal) (error : ErrorValue) → IsTrue (names x) → IsErrAnd result (λ refusal. refusal ≡ Call error) →
    (weight ≡ 0 → IsOk {T = ⊤} (Err error) × (new ≡ old)) → (2 ^ 64 ≤ old.total + weight → IsErrOf {T = ⊤} (Err error) (invalid_argument WeightOverflow)) →
    (old.total + weight < 2 ^ 64 → error ≡ no_memory) → (old.total + weight < 2 ^ 64 → is_tracked_by_key names old.counters ≡ true → IsOk {T = ⊤} (Err error)) → new ≡ old → AddsNamed eq input names weight (Frequent old) result (Frequent new)
rejected eq input names x weight old new result error named from zero overflow memory succeeds unchanged =
    let p = err_from_is_err_and result from in
    let said = ap done_or p.1 ∙ ap Refused p.2 in
    elim (cases_lt (old.total + weight) (2 ^ 64)) [
      | inl room ↦ inr (record {
        error = p.1 ∙ ap Err (p.2 ∙ ap Call (memory room));
        some = elim (cases_eq weight 0) [
          | inl none ↦ absurd (false≢true (zero none).0)
          | inr some ↦ omega (arith, some)
        ];
        needs = (false_from_ne_true _ (λ tracked. false≢true (succeeds room tracked)), room);
      })
      | inr over ↦ inl (
        x,
        named,
        (
          new,
          record {
            nothing = λ none. absurd (false≢true (zero none).0);
            overflow = λ _. (said ∙ ap refused (same_error (overflow over)), unchanged);
            added = λ some room. absurd (omega (arith, over, room));
          },
          refl,
        ),
      )
    ]
