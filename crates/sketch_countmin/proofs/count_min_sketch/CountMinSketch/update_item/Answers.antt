use Rattle.std.proofs.Common.{◌≡◌, ◌+◌, ◌<◌, ◌≤◌, ap, subst, ◌∙◌, ℤ, pos, unsigned_abs}
use Rattle.std.specs.Prelude.{OnOk, IsOk, IsErrOf}
use Rattle.sketch_base.specs.Errors.{invalid_argument}
use Rattle.sketch_base.specs.declared.fault.Fault.TheVariants.{WeightOverflow}
use Rattle.sketch_countmin.specs.History.CountHistory.{Update}
use Rattle.sketch_countmin.specs.Stands.{Extends}
use Rattle.sketch_countmin.specs.State.{Counts}
use Rattle.sketch_countmin.proofs.count_min_sketch.CountMinSketch.update_item.Given as given
use Rattle.sketch_countmin.proofs.count_min_sketch.CountMinSketch.update_item.Goals as goal
use Rattle.sketch_countmin.proofs.count_min_sketch.CountMinSketch.update_item.Goals.{After-update_item_with_weight}

-- the weight is 1
one : (g : given.Over) (c : After-update_item_with_weight g) → g.T.CountMinValue.number c.ONE.result ≡ pos 1
one g c = ap g.T.CountMinValue.number c.ONE.ensures ∙ g.met.T.CountMinValue.one_is

pub returns-clause-counted : goal.returns-clause-counted
returns-clause-counted g c = subst (λ (w : ℤ). OnOk c.update_item_with_weight.result (Counts c.args.self.now (g.R.Item.bytes c.args.item) w c.update_item_with_weight.new.self)) (one g c) c.update_item_with_weight.ensures.counted

pub returns-clause-state : goal.returns-clause-state
returns-clause-state g c = c.update_item_with_weight.ensures.state

pub returns-clause-stands : goal.returns-clause-stands
returns-clause-stands g c = subst (λ (w : ℤ). OnOk c.update_item_with_weight.result (Extends c.args.self.now c.update_item_with_weight.new.self (λ h. Update h (g.R.Item.bytes c.args.item) w))) (one g c) c.update_item_with_weight.ensures.stands

pub returns-clause-err : goal.returns-clause-err
returns-clause-err g c = c.update_item_with_weight.ensures.err

pub returns-clause-overflow : goal.returns-clause-overflow
returns-clause-overflow g c = subst (λ (w : ℤ). g.T.CountMinValue.greatest < c.args.self.now.total + unsigned_abs w → IsErrOf c.update_item_with_weight.result (invalid_argument WeightOverflow)) (one g c) c.update_item_with_weight.ensures.overflow

pub returns-clause-succeeds : goal.returns-clause-succeeds
returns-clause-succeeds g c = subst (λ (w : ℤ). c.args.self.now.total + unsigned_abs w ≤ g.T.CountMinValue.greatest → IsOk c.update_item_with_weight.result) (one g c) c.update_item_with_weight.ensures.succeeds
