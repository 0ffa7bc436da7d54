use Rattle.std.proofs.Common.{ap, ◌∙◌, arith, unwrap_or}
use Rattle.counter_table.specs.Keys.{count_by_key_of}
use Rattle.counter_table.specs.Tables.{count_by_key}
use Rattle.sketch_frequencies.proofs.frequent_items_sketch.FrequentItemsSketch.lower_bound_item.Goals as goal

pub returns-clause-value : goal.returns-clause-value
returns-clause-value g c = c.unwrap_or.ensures ∙ (ap (λ o. unwrap_or o 0) c.look_up_by_key.ensures ∙ ap (λ s. count_by_key (g.K.ItemKey.names c.args.key) s.counters) c.self.view_is)

pub returns-clause-bound : goal.returns-clause-bound
returns-clause-bound g c = λ x is h encloses. omega (arith, returns-clause-value g c, count_by_key_of (g.K.ItemKey.names c.args.key) (g.met.K.ItemKey.respects_eq c.args.key) c.args.self.now.counters x is, encloses.at_least x)
