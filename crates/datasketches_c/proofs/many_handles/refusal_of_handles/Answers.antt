use Rattle.std.proofs.Common.{◌≡◌, ◌≢◌, ◌+◌, ◌<◌, ℤ, List, Option, length, map, drop, get_or, ap, sym, subst, ◌∙◌, arith}
use mir.Syntax.{w32}
use mir.Val.{of_z}
use Rattle.std.proofs.Math.Seq.{map-set_same}
use Rattle.datasketches_c.specs.Kinds.{OnKind}
use Rattle.datasketches_c.specs.ManyHandles.{OnEachKind}
use Rattle.datasketches_c.specs.Numbers.{ok}
use Rattle.datasketches_c.specs.declared.held_sketch.HeldSketch.{HeldSketch}
use Rattle.datasketches_c.specs.declared.handle.SketchHandle.{SketchHandle}
use Rattle.datasketches_c.specs.Sharing.{reads}
use Rattle.datasketches_c.proofs.AnswerLemmas.{handed_on}
use Rattle.datasketches_c.proofs.Refusals.{is_done}
use Rattle.datasketches_c.proofs.ManyHandleLemmas.{on_each_next, on_each_stopped, values_from}
use Rattle.datasketches_c.proofs.many_handles.refusal_of_handles.Goals as goal

pub returns-then-refusal-ne-OK-clause-kept : goal.returns-then-refusal-ne-OK-clause-kept
returns-then-refusal-ne-OK-clause-kept g c =
    let value : SketchHandle → Option HeldSketch = λ handle. handle.value in
    map-set_same value c.each.handles c.each.i c.refusal_of_handle-refusal.new.handle c.index-handles-i.result c.refusal_of_handle-refusal.ensures.kept
    ∙ c.each.invariant.kept

-- this handle is the first without a sketch of the kind
pub returns-then-refusal-ne-OK-clause-call : goal.returns-then-refusal-ne-OK-clause-call
returns-then-refusal-ne-OK-clause-call g c =
    let part = reads g.K.Kind.part in
    let value : SketchHandle → Option HeldSketch = λ handle. handle.value in
    let held : List (Option HeldSketch) = map value c.args.handles.now in
    let v : Option HeldSketch = value (get_or c.each.handles c.each.i c.index-handles-i.result) in
    let z = c.refusal_of_handle-refusal.result in
    let there : c.each.i < length c.each.handles = omega arith in
    let left = values_from value c.each.handles held c.each.i c.index-handles-i.result there c.each.invariant.kept in
    let other : z ≢ ok = λ e. c.if-refusal-ne-OK.true (ap (of_z w32) e) in
    let stopped = on_each_stopped part v (drop (c.each.i + 1) held) z other c.refusal_of_handle-refusal.ensures.call in
    let said : OnEachKind part held z (λ ss. z ≡ ok) = c.each.invariant.so_far z (subst (λ (vs : List (Option HeldSketch)). OnEachKind part vs z (λ ss. z ≡ ok)) (sym left) stopped) in
    handed_on (λ y. OnEachKind part held y (λ ss. y ≡ ok)) z c.refusal_of_handle-refusal.type_inv said

-- one handle more has a sketch of the kind
pub each-preserved : goal.each-preserved
each-preserved g c =
    let part = reads g.K.Kind.part in
    let value : SketchHandle → Option HeldSketch = λ handle. handle.value in
    let held : List (Option HeldSketch) = map value c.args.handles.now in
    let v : Option HeldSketch = value (get_or c.each.handles c.each.i c.index-handles-i.result) in
    let there : c.each.i < length c.each.handles = omega arith in
    let left = values_from value c.each.handles held c.each.i c.index-handles-i.result there c.each.invariant.kept in
    let one : OnKind part v v ok (λ s. ok ≡ ok) = subst (λ (z : ℤ). OnKind part v v z (λ s. z ≡ ok)) (is_done c.refusal_of_handle-refusal.result c.refusal_of_handle-refusal.type_inv c.if-refusal-ne-OK.false) c.refusal_of_handle-refusal.ensures.call in
    record {
      kept = map-set_same value c.each.handles c.each.i c.refusal_of_handle-refusal.new.handle c.index-handles-i.result c.refusal_of_handle-refusal.ensures.kept ∙ c.each.invariant.kept;
      so_far = λ z said. c.each.invariant.so_far z (subst (λ (vs : List (Option HeldSketch)). OnEachKind part vs z (λ ss. z ≡ ok)) (sym left) (on_each_next part v (drop (c.each.i + 1) held) z one said));
    }
