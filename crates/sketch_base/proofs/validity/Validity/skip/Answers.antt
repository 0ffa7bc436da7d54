use Rattle.sketch_base.proofs.ValidBits.{dropped}
use Rattle.sketch_base.proofs.validity.Validity.skip.Goals as goal

-- one more bit is left out, if there is one
pub each-preserved : goal.each-preserved
each-preserved c = dropped c.each.counter c.args.self.now c.each.self c.next.new.self c.next.result c.each.invariant c.next.ensures
