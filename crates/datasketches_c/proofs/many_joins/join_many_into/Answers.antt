use Rattle.std.proofs.Common.{◌≡◌, ◌<◌, ℤ, Box, List, Option, length, map, inl, ap, ◌∙◌, subst, arith}
use mir.Syntax.{w32}
use mir.Val.{of_z}
use Rattle.std.specs.Global.{Global}
use Rattle.std.specs.Option.{option_map}
use Rattle.datasketches_c.specs.ManyHandles.{OnEachKind, OrNoMemory}
use Rattle.datasketches_c.specs.Numbers.{ok}
use Rattle.datasketches_c.specs.declared.held_sketch.HeldSketch.{HeldSketch}
use Rattle.datasketches_c.specs.declared.handle.SketchHandle.{SketchHandle}
use Rattle.datasketches_c.specs.Sharing.{reads}
use Rattle.datasketches_c.proofs.AnswerLemmas.{handed_on}
use Rattle.datasketches_c.proofs.Refusals.{is_done}
use Rattle.datasketches_c.proofs.ManyHandleLemmas.{on_each_less, on_each_moved, some_more}
use Rattle.datasketches_c.proofs.many_joins.join_many_into.Goals as goal

-- a handle has no sketch of the kind
pub returns-then-refusal-ne-OK-clause-call : goal.returns-then-refusal-ne-OK-clause-call
returns-then-refusal-ne-OK-clause-call g c =
    let part = reads g.K.Kind.part in
    let value : SketchHandle → Option HeldSketch = λ handle. handle.value in
    let held : List (Option HeldSketch) = map value c.args.handles.now in
    let z = c.refusal_of_handles-refusal.result in
    handed_on (λ y. OnEachKind part held y (λ bs. OrNoMemory y bs (g.K.JoinsMany.joins_many c.args.sketch.now bs c.args.sketch.now y))) z c.refusal_of_handles-refusal.type_inv
    (on_each_less part held z (λ ss. z ≡ ok) (λ bs. OrNoMemory z bs (g.K.JoinsMany.joins_many c.args.sketch.now bs c.args.sketch.now z)) (λ bs is. absurd (c.if-refusal-ne-OK.true (ap (of_z w32) is))) c.refusal_of_handles-refusal.ensures.call)

-- there was no memory for the list
pub returns-in_default-clause-call : goal.returns-in_default-clause-call
returns-in_default-clause-call g c =
    let part = reads g.K.Kind.part in
    let value : SketchHandle → Option HeldSketch = λ handle. handle.value in
    let held : List (Option HeldSketch) = map value c.args.handles.now in
    let z = c.refusal_number.result in
    let kept : 0 < length c.refusal_of_handles-refusal.new.handles = c.in_default.ensures.some in
    let some : 0 < length c.args.handles.now = omega arith in
    let kinds : OnEachKind part held ok (λ ss. ok ≡ ok) = subst (λ (y : ℤ). OnEachKind part held y (λ ss. y ≡ ok)) (is_done c.refusal_of_handles-refusal.result c.refusal_of_handles-refusal.type_inv c.if-refusal-ne-OK.false) c.refusal_of_handles-refusal.ensures.call in
    handed_on (λ y. OnEachKind part held y (λ bs. OrNoMemory y bs (g.K.JoinsMany.joins_many c.args.sketch.now bs c.args.sketch.now y))) z c.refusal_number.type_inv
    (on_each_moved part held z (λ ss. ok ≡ ok) (λ bs. OrNoMemory z bs (g.K.JoinsMany.joins_many c.args.sketch.now bs c.args.sketch.now z)) (λ bs long is. inl (c.refusal_number.ensures, some_more value c.args.handles.now bs long some)) kinds)

-- the sketches that were taken out are those of the handles
pub returns-clause-call : goal.returns-clause-call
returns-clause-call g c =
    let part = reads g.K.Kind.part in
    let of : Option (Box HeldSketch Global) → Option HeldSketch = option_map (λ boxed. boxed.value) in
    let value : SketchHandle → Option HeldSketch = λ handle. handle.value in
    let held : List (Option HeldSketch) = map value c.args.handles.now in
    let z = c.join_taken-answer.result in
    let said : List (Option HeldSketch) → ℤ → Type 0 = λ vs y. OnEachKind part vs y (λ bs. OrNoMemory y bs (g.K.JoinsMany.joins_many c.args.sketch.now bs c.join_taken-answer.new.sketch y)) in
    let same = ap (map of) c.deref.ensures.value ∙ (c.in-Ok.ensures.taken ∙ c.refusal_of_handles-refusal.ensures.kept) in
    handed_on (said held) z c.join_taken-answer.type_inv (subst (λ (vs : List (Option HeldSketch)). said vs z) same c.join_taken-answer.ensures.call)
