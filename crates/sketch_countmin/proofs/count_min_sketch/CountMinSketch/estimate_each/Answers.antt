use Rattle.std.proofs.Common.{◌<◌, ◌≤◌, ◌∙◌, ℕ, List, length, length-set, arith}
use Rattle.sketch_countmin.specs.State.{IsMinCell}
use Rattle.sketch_countmin.proofs.ItemSequences.{next_is, none_left, one_more_found}
use Rattle.sketch_countmin.proofs.count_min_sketch.CountMinSketch.estimate_each.Goals as goal

pub each-preserved : goal.each-preserved
each-preserved g c =
    let items = g.I.Items.list c.args.items in
    let i = c.each.i in
    let bytes : List ℕ = g.I.Each.Item.bytes c.in-Some.item in
    let at = next_is items (g.I.Items.list c.next.new.self) i bytes (c.each.invariant.rest ∙ c.in-Some.ensures) in
    let room : i < length c.each.estimates = omega (arith, at.there, c.each.invariant.size, c.requires) in
    record {
      rest = at.after_is;
      size = omega (arith, c.each.invariant.size, length-set c.each.estimates i c.estimate_item.result);
      least = one_more_found (IsMinCell c.args.self.now) g.T.CountMinValue.number items c.each.estimates i bytes c.estimate_item.result room at.is at.there c.each.invariant.least c.estimate_item.ensures.least;
    }

pub returns-clause-least : goal.returns-clause-least
returns-clause-least g c =
    let items = g.I.Items.list c.args.items in
    let here : length items ≤ c.each.i = none_left items c.each.i (c.each.invariant.rest ∙ c.in_default.ensures.0) in
    λ k lt. c.each.invariant.least k (omega (arith, here, lt))
