use Rattle.std.proofs.Common.{◌≡◌, ℕ, ◌+◌, ◌<◌, ◌≤◌, Bool, length, take, set, ap, ◌∙◌, arith}
use Rattle.std.specs.Prelude.{IsTrue}
use Rattle.sketch_base.specs.Batches.{written_more}
use Rattle.sketch_frequencies.specs.Stands.{IsExactOfFew}
use Rattle.sketch_frequencies.specs.State.{estimate_by_key}
use Rattle.sketch_frequencies.proofs.KeyedBatches.{key_at, left_after, none_left, answered_more}
use Rattle.sketch_frequencies.proofs.frequent_items_sketch.FrequentItemsSketch.estimate_all.Given as given
use Rattle.sketch_frequencies.proofs.frequent_items_sketch.FrequentItemsSketch.estimate_all.Goals as goal
use Rattle.sketch_frequencies.proofs.frequent_items_sketch.FrequentItemsSketch.estimate_all.Goals.{After-drop-keys}

-- there is a key for each answer
no_end : (g : given.Over) (c : After-drop-keys g) → ⊥
no_end g c =
    let ends : length (g.K.Keys.names c.args.keys) ≤ c.each.i = none_left (g.K.Keys.names c.args.keys) (g.K.Keys.names c.each.keys) c.each.i c.each.invariant.left c.in_default-next_key.ensures.0 in
    omega (arith, ends, c.requires, c.each-test.true)

pub returns-in_default-next_key-clause-value : goal.returns-in_default-next_key-clause-value
returns-in_default-next_key-clause-value g c = absurd (no_end g c)

pub returns-in_default-next_key-clause-exact : goal.returns-in_default-next_key-clause-exact
returns-in_default-next_key-clause-exact g c = absurd (no_end g c)

pub each-preserved : goal.each-preserved
each-preserved g c =
    let s = c.args.self.now in
    let all = g.K.Keys.names c.args.keys in
    let left = g.K.Keys.names c.each.keys in
    let later = g.K.Keys.names c.next_key.new.self in
    let i = c.each.i in
    let key : g.row.T.Denot → Bool = g.K.Key.ItemKey.names c.in-Some.key in
    let f : (g.row.T.Denot → Bool) → ℕ = λ names. estimate_by_key names s in
    let R : (g.row.T.Denot → Bool) → ℕ → Type 0 = λ names answer. (x : g.row.T.Denot) → IsTrue (names x) → IsExactOfFew g.T.PartialEq.eq s x answer in
    let answer : ℕ = c.estimate_item.result in
    let lt : i < length all = omega (arith, c.requires, c.each-test.true) in
    let there : i < length c.each.estimates = omega arith in
    let at = key_at all left later i key c.each.invariant.left c.in-Some.ensures in
    let is : answer ≡ f key = c.estimate_item.ensures.value in
    record {
      left = left_after all left later i key lt c.each.invariant.left c.in-Some.ensures;
      value = ap (λ (b : ℕ). take (i + 1) (set c.each.estimates i b)) (is ∙ ap f at) ∙ written_more f all c.each.estimates i key lt there c.each.invariant.value;
      holds = answered_more R all c.each.estimates i key answer lt there at c.each.invariant.holds (c.estimate_item.ensures.exact);
    }
