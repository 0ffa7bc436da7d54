use Rattle.std.proofs.Common.{ℕ, ◌/◌, length, ap, sym, ◌∙◌, arith}
use Rattle.sketch_base.specs.Murmur3.{body}
use Rattle.sketch_base.proofs.Blocks.{each_step, each_done}
use Rattle.sketch_base.proofs.Murmur3Pieces.{body_is}
use Rattle.sketch_base.proofs.murmurhash.body.Goals as goal

pub each-init : goal.each-init
each-init c = ap (λ (n : ℕ). body n c.args.start c.args.bytes.now) (omega arith)

pub each-preserved : goal.each-preserved
each-preserved c = sym (each_step body_is (length c.args.bytes.now / 16) c.each.i c.each.h c.block-h.result c.args.bytes.now c.each-test.true c.block-h.ensures) ∙ c.each.invariant

pub returns : goal.returns
returns c = sym (each_done body_is (length c.args.bytes.now / 16) c.each.i c.each.h _ (omega arith)) ∙ c.each.invariant
