use Rattle.std.proofs.Common.{ℕ, ◌/◌, length, ap, sym, ◌∙◌, arith}
use Rattle.sketch_base.specs.Xxh64.{stripes}
use Rattle.sketch_base.proofs.Blocks.{each_step, each_done}
use Rattle.sketch_base.proofs.Xxh64Pieces.{stripes_is}
use Rattle.sketch_base.proofs.xxhash.stripes.Goals as goal

pub each-init : goal.each-init
each-init c = ap (λ (n : ℕ). stripes n c.args.start c.args.bytes.now) (omega arith)

pub each-preserved : goal.each-preserved
each-preserved c = sym (each_step stripes_is (length c.args.bytes.now / 32) c.each.i c.each.acc c.stripe-acc.result c.args.bytes.now c.each-test.true c.stripe-acc.ensures) ∙ c.each.invariant

pub returns : goal.returns
returns c = sym (each_done stripes_is (length c.args.bytes.now / 32) c.each.i c.each.acc _ (omega arith)) ∙ c.each.invariant
