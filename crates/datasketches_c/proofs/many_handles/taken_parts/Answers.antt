use Rattle.std.proofs.Common.{◌≡◌, ◌<◌, ◌≤◌, Box, List, Option, length, map, ap, sym, ◌∙◌, arith}
use Rattle.std.specs.Global.{Global}
use Rattle.std.specs.Option.{option_map}
use Rattle.std.proofs.lemmas.List.{take_all}
use Rattle.datasketches_c.specs.ManyHandles.{found_in}
use Rattle.datasketches_c.specs.Numbers.{ok}
use Rattle.datasketches_c.specs.declared.held_sketch.HeldSketch.{HeldSketch}
use Rattle.datasketches_c.specs.Sharing.{reads}
use Rattle.datasketches_c.proofs.ManyHandleLemmas.{some_taken}
use Rattle.datasketches_c.proofs.many_handles.taken_parts.Goals as goal

-- each has a sketch of the kind
pub taken_part-requires : goal.taken_part-requires
taken_part-requires g c =
    let of : Option (Box HeldSketch Global) → Option HeldSketch = option_map (λ boxed. boxed.value) in
    let there : c.each.i < length c.args.taken.now = omega arith in
    some_taken (reads g.K.Kind.part) of c.args.taken.now c.each.i c.index-taken-i.result (λ ss. ok ≡ ok) there c.index-taken-i.is c.requires

-- all sketches are in the list
pub returns-clause-parts : goal.returns-clause-parts
returns-clause-parts g c =
    let of : Option (Box HeldSketch Global) → Option HeldSketch = option_map (λ boxed. boxed.value) in
    let here : length c.args.taken.now ≤ c.each.i = omega arith in
    ap (λ (xs : List (Option (Box HeldSketch Global))). map (found_in (reads g.K.Kind.part)) (map of xs)) (sym (take_all c.each.i c.args.taken.now here)) ∙ c.each.invariant.so_far
