use Rattle.std.proofs.Common.{◌≡◌, ◌+◌, ◌<◌, ◌≤◌, Bool, length, take, set, ap, ◌∙◌, arith}
use Rattle.std.specs.Prelude.{IsTrue}
use Rattle.sketch_base.specs.Batches.{written_more}
use Rattle.sketch_frequencies.specs.declared.item_bounds.ItemBounds.{ItemBounds}
use Rattle.sketch_frequencies.proofs.ManyBounds.{bounds_are}
use Rattle.sketch_frequencies.specs.Bounds.{bounds_by_key, BoundWeight}
use Rattle.sketch_frequencies.proofs.KeyedBatches.{key_at, left_after, none_left, answered_more}
use Rattle.sketch_frequencies.proofs.frequent_items_sketch.FrequentItemsSketch.bounds_all.Given as given
use Rattle.sketch_frequencies.proofs.frequent_items_sketch.FrequentItemsSketch.bounds_all.Goals as goal
use Rattle.sketch_frequencies.proofs.frequent_items_sketch.FrequentItemsSketch.bounds_all.Goals.{After-drop-keys}

-- there is a key for each answer
no_end : (g : given.Over) (c : After-drop-keys g) → ⊥
no_end g c =
    let ends : length (g.K.Keys.names c.args.keys) ≤ c.each.i = none_left (g.K.Keys.names c.args.keys) (g.K.Keys.names c.each.keys) c.each.i c.each.invariant.left c.in_default-next_key.ensures.0 in
    omega (arith, ends, c.requires, c.each-test.true)

pub returns-in_default-next_key-clause-value : goal.returns-in_default-next_key-clause-value
returns-in_default-next_key-clause-value g c = absurd (no_end g c)

pub returns-in_default-next_key-clause-bound : goal.returns-in_default-next_key-clause-bound
returns-in_default-next_key-clause-bound g c = absurd (no_end g c)

pub each-preserved : goal.each-preserved
each-preserved g c =
    let s = c.args.self.now in
    let all = g.K.Keys.names c.args.keys in
    let left = g.K.Keys.names c.each.keys in
    let later = g.K.Keys.names c.next_key.new.self in
    let i = c.each.i in
    let key : g.row.T.Denot → Bool = g.K.Key.ItemKey.names c.in-Some.key in
    let f : (g.row.T.Denot → Bool) → ItemBounds = λ names. bounds_by_key names s in
    let R : (g.row.T.Denot → Bool) → ItemBounds → Type 0 = λ names answer. (x : g.row.T.Denot) → IsTrue (names x) → BoundWeight g.T.PartialEq.eq s x answer in
    let answer : ItemBounds = c.bounds_item.result in
    let lt : i < length all = omega (arith, c.requires, c.each-test.true) in
    let there : i < length c.each.bounds = omega arith in
    let at = key_at all left later i key c.each.invariant.left c.in-Some.ensures in
    let is : answer ≡ f key = bounds_are key s answer c.bounds_item.ensures.lower c.bounds_item.ensures.estimate c.bounds_item.ensures.upper in
    record {
      left = left_after all left later i key lt c.each.invariant.left c.in-Some.ensures;
      value = ap (λ (b : ItemBounds). take (i + 1) (set c.each.bounds i b)) (is ∙ ap f at) ∙ written_more f all c.each.bounds i key lt there c.each.invariant.value;
      holds = answered_more R all c.each.bounds i key answer lt there at c.each.invariant.holds (λ x named. record { at_least = c.bounds_item.ensures.at_least x named; at_most = c.bounds_item.ensures.at_most x named; exact = c.bounds_item.ensures.exact x named });
    }
