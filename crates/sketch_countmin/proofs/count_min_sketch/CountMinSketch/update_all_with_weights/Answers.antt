use Rattle.std.proofs.Common.{◌+◌, ◌<◌, ◌≤◌, ◌∙◌, ℕ, List, map, length, unsigned_abs, refl, arith}
use Rattle.std.specs.List.{zip}
use Rattle.std.specs.Prelude.{sum_by}
use Rattle.sketch_countmin.specs.State.{Counts, CountsEach}
use Rattle.sketch_countmin.proofs.Chains.{ok_said, counts_next, counts_whole, stands_each}
use Rattle.sketch_countmin.proofs.ItemSequences.{next_is, none_left}
use Rattle.sketch_countmin.proofs.Weights.{one_fits, one_more}
use Rattle.sketch_countmin.proofs.count_min_sketch.CountMinSketch.update_all_with_weights.Given as given
use Rattle.sketch_countmin.proofs.count_min_sketch.CountMinSketch.update_all_with_weights.Goals as goal
use Rattle.sketch_countmin.proofs.count_min_sketch.CountMinSketch.update_all_with_weights.Goals.{In_default}

pub each-preserved : goal.each-preserved
each-preserved g c =
    let number = g.T.CountMinValue.number in
    let size : g.row.T.Denot → ℕ = λ weight. unsigned_abs (number weight) in
    let items = g.I.Items.list c.args.items in
    let weights = c.args.weights.now in
    let i = c.each.i in
    let bytes : List ℕ = g.I.Each.Item.bytes c.in-Some.item in
    let at = next_is items (g.I.Items.list c.next.new.self) i bytes (c.each.invariant.rest ∙ c.in-Some.ensures) in
    let w = c.index-weights-i.result in
    let other : i < length weights = omega (arith, at.there, c.requires) in
    let fits : c.args.self.now.total + sum_by size weights ≤ g.T.CountMinValue.greatest = c.if-not-has_room_for_weights.ensures.fits.0 refl in
    let room : c.each.self.total + size w ≤ g.T.CountMinValue.greatest = one_fits size weights i w c.args.self.now.total c.each.self.total g.T.CountMinValue.greatest other c.index-weights-i.is fits c.each.invariant.total in
    let one : Counts c.each.self bytes (number w) c.update_item_with_weight.new.self = ok_said c.update_item_with_weight.result _ (c.update_item_with_weight.ensures.succeeds room) c.update_item_with_weight.ensures.counted in
    record {
      rest = at.after_is;
      counted = counts_next number items weights c.requires i bytes w c.args.self.now c.each.self c.update_item_with_weight.new.self at.there at.is c.index-weights-i.is c.each.invariant.counted one;
      total = one_more size weights i w c.args.self.now.total c.each.self.total c.update_item_with_weight.new.self.total other c.index-weights-i.is one.total c.each.invariant.total;
      state = c.update_item_with_weight.ensures.state;
    }

-- all are counted
all : (g : given.Over) (c : In_default g) → CountsEach c.args.self.now (zip (g.I.Items.list c.args.items) (map g.T.CountMinValue.number c.args.weights.now)) c.each.self
all g c =
    let items = g.I.Items.list c.args.items in
    let here : length items ≤ c.each.i = none_left items c.each.i (c.each.invariant.rest ∙ c.in_default.ensures.0) in
    counts_whole g.T.CountMinValue.number items c.args.weights.now c.requires c.each.i c.args.self.now c.each.self here c.each.invariant.counted

pub returns-clause-counted : goal.returns-clause-counted
returns-clause-counted g c = all g (goal.at.returns-clause-counted g c).In_default

pub returns-clause-stands : goal.returns-clause-stands
returns-clause-stands g c = stands_each c.args.self.now _ c.each.self (all g (goal.at.returns-clause-stands g c).In_default)
