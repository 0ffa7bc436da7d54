use Rattle.std.proofs.Common.{map, inr, rules, arith, subst}
use Rattle.std.proofs.lemmas.Grind.{common_steps}
use Rattle.std.proofs.lemmas.Result.{err_from_is_err_and}
use Rattle.sketch_bloom.specs.State.{FilterState}
use Rattle.uses.specs.Prefilters.{UnitesAll, RefusesOne}
use Rattle.uses.proofs.Prefilters.{unites_at, refuses_at, passes_all}
use Rattle.uses.proofs.join_prefilter.JoinPrefilter.of_images.Goals as goal

pub loop-image-preserved : goal.loop-image-preserved
loop-image-preserved c =
    let value = c.deref.ensures.value in
    unites_at (λ image. image.items) c.args.images.now c.loop-image.image-index c.image-item.result (omega arith) c.image-item.is
    c.in_ok-prefilter.prefilter c.loop-image.prefilter c.unite.new.self c.loop-image.invariant (rw value at c.in_ok-unite.ensures.part) (rw value at c.in_ok-unite.ensures.ok)

pub returns-in_err-unite-clause-refused : goal.returns-in_err-unite-clause-refused
returns-in_err-unite-clause-refused c =
    let value = c.deref.ensures.value in
    let images = map (λ image. image.items) c.args.images.now in
    let p = err_from_is_err_and c.from_residual-in_err-unite.result c.from_residual-in_err-unite.ensures.1 in
    let at = refuses_at (λ image. image.items) c.args.images.now c.loop-image.image-index c.image-item.result (omega arith) c.image-item.is
    c.in_ok-prefilter.prefilter c.loop-image.prefilter c.in_err-unite.field-0.0 c.loop-image.invariant (rw value at c.in_err-unite.ensures.refused) in
    rw (p.1, p.2) (inr (search rules, subst (λ (s : FilterState). RefusesOne s images c.in_err-unite.field-0.0) c.in_ok-prefilter.ensures.ok at))

pub returns-clause-passes : goal.returns-clause-passes
returns-clause-passes c =
    let all : UnitesAll c.in_ok-prefilter.prefilter (map (λ image. image.items) c.args.images.now) c.loop-image.prefilter = grind (arith, common_steps) in
    passes_all c.image_laws.ensures.spelled c.in_ok-prefilter.prefilter c.loop-image.prefilter (map (λ image. image.items) c.args.images.now) all
