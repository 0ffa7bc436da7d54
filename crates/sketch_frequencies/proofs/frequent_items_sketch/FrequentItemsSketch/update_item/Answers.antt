use Rattle.std.proofs.Common.{arith}
use Rattle.sketch_frequencies.proofs.StepsByKey.{on_ok}
use Rattle.sketch_frequencies.proofs.frequent_items_sketch.FrequentItemsSketch.update_item.Goals as goal

pub returns-clause-stands : goal.returns-clause-stands
returns-clause-stands g c = on_ok c.update_item_with_count.result (λ all. all (omega arith)) c.update_item_with_count.ensures.stands

pub returns-clause-budget : goal.returns-clause-budget
returns-clause-budget g c = on_ok c.update_item_with_count.result (λ all. all (omega arith)) c.update_item_with_count.ensures.budget
