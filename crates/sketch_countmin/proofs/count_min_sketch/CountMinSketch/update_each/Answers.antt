use Rattle.std.proofs.Common.{◌+◌, ◌-◌, ◌<◌, ◌≤◌, length, take, arith}
use Rattle.sketch_countmin.specs.State.{CountsAll}
use Rattle.sketch_countmin.proofs.BatchUpdates.{stands_all}
use Rattle.sketch_countmin.proofs.ItemSequences.{counted_none, counted_more, counted_all, counted_stop}
use Rattle.sketch_countmin.proofs.Tables.{state_shown}
use Rattle.sketch_countmin.proofs.count_min_sketch.CountMinSketch.update_each.Given as given
use Rattle.sketch_countmin.proofs.count_min_sketch.CountMinSketch.update_each.Goals as goal
use Rattle.sketch_countmin.proofs.count_min_sketch.CountMinSketch.update_each.Goals.{After-invalid_argument, In_default}

pub each-init : goal.each-init
each-init g c = record {
  counted = counted_none c.args.self.now (g.I.Items.list c.args.items);
  state = state_shown _ _ _ _ _ _ _ c.self.view_is c.self.invariant;
}

pub each-preserved : goal.each-preserved
each-preserved g c =
    record {
      counted = counted_more c.args.self.now c.each.self c.update_item.new.self (g.I.Items.list c.args.items) (g.I.Items.list c.each.items) (g.I.Items.list c.next.new.self) (g.I.Each.Item.bytes c.in-Some.item) c.each.invariant.counted c.in-Some.ensures c.in-Ok.ensures.counted;
      state = c.update_item.ensures.state;
    }

-- the total has no room for the next one
stopped : (g : given.Over) (c : After-invalid_argument g) → let items = g.I.Items.list c.args.items in
    CountsAll c.args.self.now (take (g.T.CountMinValue.greatest - c.args.self.now.total) items) c.update_item.new.self × (g.T.CountMinValue.greatest < c.args.self.now.total + length items)
stopped g c =
    counted_stop c.args.self.now c.each.self c.update_item.new.self (g.I.Items.list c.args.items) (g.I.Items.list c.each.items) (g.I.Items.list c.next.new.self) (g.I.Each.Item.bytes c.in-Some.item) g.T.CountMinValue.greatest
    c.each.invariant.counted c.in-Some.ensures c.each.invariant.state.fits c.in_default-update_item.ensures.succeeds c.in_default-update_item.ensures.err

pub returns-in_default-update_item-clause-counted : goal.returns-in_default-update_item-clause-counted
returns-in_default-update_item-clause-counted g c = (stopped g (goal.at.returns-in_default-update_item-clause-counted g c).After-invalid_argument).0

pub returns-in_default-update_item-clause-stands : goal.returns-in_default-update_item-clause-stands
returns-in_default-update_item-clause-stands g c = λ h. stands_all _ _ _ h (stopped g (goal.at.returns-in_default-update_item-clause-stands g c).After-invalid_argument).0

pub returns-in_default-update_item-clause-succeeds : goal.returns-in_default-update_item-clause-succeeds
returns-in_default-update_item-clause-succeeds g c = let over = (stopped g (goal.at.returns-in_default-update_item-clause-succeeds g c).After-invalid_argument).1 in λ fits. absurd (omega (arith, over))

-- all items are counted
ended : (g : given.Over) (c : In_default g) → let items = g.I.Items.list c.args.items in
    CountsAll c.args.self.now (take (g.T.CountMinValue.greatest - c.args.self.now.total) items) c.each.self × (c.args.self.now.total + length items ≤ g.T.CountMinValue.greatest)
ended g c = counted_all c.args.self.now c.each.self (g.I.Items.list c.args.items) (g.I.Items.list c.each.items) g.T.CountMinValue.greatest c.each.invariant.counted c.in_default.ensures.0 c.each.invariant.state.fits

pub returns-clause-counted : goal.returns-clause-counted
returns-clause-counted g c = (ended g (goal.at.returns-clause-counted g c).In_default).0

pub returns-clause-stands : goal.returns-clause-stands
returns-clause-stands g c = λ h. stands_all _ _ _ h (ended g (goal.at.returns-clause-stands g c).In_default).0

pub returns-clause-overflow : goal.returns-clause-overflow
returns-clause-overflow g c = let fits = (ended g (goal.at.returns-clause-overflow g c).In_default).1 in λ over. absurd (omega (arith, fits))
