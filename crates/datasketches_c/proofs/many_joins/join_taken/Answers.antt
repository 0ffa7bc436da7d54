use Rattle.std.proofs.Common.{◌≡◌, Box, List, Option, Some, map, inl, inr, sym, ap, ◌∙◌}
use Rattle.std.specs.Global.{Global}
use Rattle.std.specs.Option.{option_map}
use Rattle.datasketches_c.specs.ManyHandles.{OnEachKind, OrNoMemory}
use Rattle.datasketches_c.specs.Numbers.{ok}
use Rattle.datasketches_c.specs.declared.held_sketch.HeldSketch.{HeldSketch}
use Rattle.datasketches_c.specs.Sharing.{reads}
use Rattle.datasketches_c.proofs.AnswerLemmas.{handed_on}
use Rattle.datasketches_c.proofs.ManyHandleLemmas.{on_each_found, on_each_moved, some_more}
use Rattle.datasketches_c.proofs.many_joins.join_taken.Goals as goal

-- the sketches of the list are those of the handles
pub returns-in-Ok-clause-call : goal.returns-in-Ok-clause-call
returns-in-Ok-clause-call g c =
    let part = reads g.K.Kind.part in
    let of : Option (Box HeldSketch Global) → Option HeldSketch = option_map (λ boxed. boxed.value) in
    let held : List (Option HeldSketch) = map of c.args.taken.now in
    let others = map (λ other. other.now) c.deref.result.now in
    let z = c.join_with_many.result in
    let found = c.in-Ok.ensures.parts ∙ ap (λ parts. map Some (map (λ part. part.now) parts)) (sym c.deref.ensures.value) in
    handed_on (λ y. OnEachKind part held y (λ bs. OrNoMemory y bs (g.K.JoinsMany.joins_many c.args.sketch.now bs c.join_with_many.new.self y))) z c.join_with_many.type_inv
    (on_each_found part held others z (λ bs. OrNoMemory z bs (g.K.JoinsMany.joins_many c.args.sketch.now bs c.join_with_many.new.self z)) found (inr c.join_with_many.ensures.call))

-- there was no memory for the list
pub returns-in-Err-clause-call : goal.returns-in-Err-clause-call
returns-in-Err-clause-call g c =
    let part = reads g.K.Kind.part in
    let of : Option (Box HeldSketch Global) → Option HeldSketch = option_map (λ boxed. boxed.value) in
    let held : List (Option HeldSketch) = map of c.args.taken.now in
    let z = c.refusal_number.result in
    handed_on (λ y. OnEachKind part held y (λ bs. OrNoMemory y bs (g.K.JoinsMany.joins_many c.args.sketch.now bs c.args.sketch.now y))) z c.refusal_number.type_inv
    (on_each_moved part held z (λ ss. ok ≡ ok) (λ bs. OrNoMemory z bs (g.K.JoinsMany.joins_many c.args.sketch.now bs c.args.sketch.now z)) (λ bs long is. inl (c.refusal_number.ensures, some_more of c.args.taken.now bs long c.in-Err.ensures.some)) c.requires)
