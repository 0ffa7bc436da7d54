use Rattle.std.proofs.Common.{refl, rules}
use Rattle.std.specs.String.{string_eq, string_eq_equiv}
use Rattle.sketch_frequencies.proofs.Promises.{misses_none}
use Rattle.sketch_frequencies.proofs.Reports.{exact_in_order}
use Rattle.sketch_frequencies.specs.declared.error_type.ErrorType.TheVariants.{NoFalseNegatives}
use Rattle.sketches.proofs.RowOrder.{order_from_sort}
use Rattle.sketches.proofs.print.report.ordered_rows.Goals as goal

pub returns-clause-exact : goal.returns-clause-exact
returns-clause-exact c = exact_in_order string_eq_equiv NoFalseNegatives c.args.least c.args.sketch.now _ _ c.sort_unstable_by.ensures.permutation c.in_ok-rows.ensures.exact

pub returns-clause-misses : goal.returns-clause-misses
returns-clause-misses c = misses_none string_eq NoFalseNegatives c.args.least c.args.sketch.now _ refl (returns-clause-exact c)

pub returns-clause-order : goal.returns-clause-order
returns-clause-order c = order_from_sort _ c.sort_unstable_by.ensures.sorted (λ a r f' k. search rules)
