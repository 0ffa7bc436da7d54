use Rattle.std.proofs.Common.{◌≡◌, ap, ◌∙◌, arith, unwrap_or}
use Rattle.counter_table.specs.Keys.{count_by_key_of}
use Rattle.counter_table.specs.Tables.{count_by_key}
use Rattle.sketch_frequencies.proofs.Puts.{count_by_key_le_sum}
use Rattle.sketch_frequencies.proofs.frequent_items_sketch.FrequentItemsSketch.upper_bound_item.Goals as goal

pub overflow_add-result : goal.overflow_add-result
overflow_add-result g c =
    let names = g.K.ItemKey.names c.args.key in
    let count : c.unwrap_or.result ≡ count_by_key names c.self.inside.map.entries = c.unwrap_or.ensures ∙ ap (λ o. unwrap_or o 0) c.look_up_by_key.ensures in
    omega (arith, count_by_key_le_sum names c.self.inside.map.entries, c.self.invariant.sum, count)

pub returns-clause-bound : goal.returns-clause-bound
returns-clause-bound g c = λ x is h encloses.
    let names = g.K.ItemKey.names c.args.key in
    let count : c.unwrap_or.result ≡ count_by_key names c.args.self.now.counters = c.unwrap_or.ensures ∙ (ap (λ o. unwrap_or o 0) c.look_up_by_key.ensures ∙ ap (λ s. count_by_key names s.counters) c.self.view_is) in
    omega (arith, count, ap (λ s. s.error) c.self.view_is, count_by_key_of names (g.met.K.ItemKey.respects_eq c.args.key) c.args.self.now.counters x is, encloses.at_most x)
