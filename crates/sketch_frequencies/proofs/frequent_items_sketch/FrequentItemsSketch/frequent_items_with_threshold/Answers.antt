use Rattle.std.proofs.Common.{rules}
use Rattle.sketch_frequencies.proofs.Reports.{exact_in_order}
use Rattle.sketch_frequencies.proofs.Promises.{misses_none, shows_none_below}
use Rattle.sketch_frequencies.proofs.Descents.{descends_from_sort}
use Rattle.sketch_frequencies.proofs.frequent_items_sketch.FrequentItemsSketch.frequent_items_with_threshold.Goals as goal

pub returns-clause-exact : goal.returns-clause-exact
returns-clause-exact g c = exact_in_order g.met.T.Eq.laws c.args.error_type c.args.threshold c.args.self.now _ _ c.sort_unstable_by.ensures.permutation c.in_ok-rows.ensures.exact

pub returns-clause-descending : goal.returns-clause-descending
returns-clause-descending g c = descends_from_sort _ c.sort_unstable_by.ensures.sorted (λ a r f' k. search rules)

pub returns-clause-none_missing : goal.returns-clause-none_missing
returns-clause-none_missing g c = λ kind. misses_none g.T.PartialEq.eq c.args.error_type c.args.threshold c.args.self.now _ kind (returns-clause-exact g c)

pub returns-clause-none_below : goal.returns-clause-none_below
returns-clause-none_below g c = λ kind. shows_none_below g.T.PartialEq.eq c.args.error_type c.args.threshold c.args.self.now _ kind (returns-clause-exact g c)
