use Rattle.std.proofs.Common.{◌≡◌, arith, ap, sym, ◌∙◌, unwrap_or}
use Rattle.counter_table.specs.Tables.{count_by_key}
use Rattle.sketch_frequencies.proofs.Puts.{count_by_key_le_sum}
use Rattle.sketch_frequencies.proofs.frequent_items_sketch.FrequentItemsSketch.bounds_hashed.Goals as goal

pub overflow_add-upper_bound : goal.overflow_add-upper_bound
overflow_add-upper_bound g c =
    let names = g.K.ItemKey.names c.args.key in
    let es = c.self.inside.map.entries in
    let count : count_by_key names es ≡ c.in-Some.count = ap (λ o. unwrap_or o 0) (sym c.look_up_hashed.ensures ∙ c.in-Some.is) in
    omega (arith, count_by_key_le_sum names es, c.self.invariant.sum, count)
