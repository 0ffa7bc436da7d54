use Rattle.sketch_frequencies.proofs.ManyMerges.{stands_one, budget_one}
use Rattle.sketch_frequencies.proofs.StepsByKey.{on_ok}
use Rattle.sketch_frequencies.proofs.frequent_items_sketch.FrequentItemsSketch.merge.Goals as goal

pub returns-clause-stands : goal.returns-clause-stands
returns-clause-stands g c = on_ok c.merge_all.result (stands_one g.T.PartialEq.eq c.args.self.now c.args.other.now c.merge_all.new.self) c.merge_all.ensures.stands

pub returns-clause-budget : goal.returns-clause-budget
returns-clause-budget g c = on_ok c.merge_all.result (budget_one g.T.PartialEq.eq c.args.self.now c.args.other.now c.merge_all.new.self) c.merge_all.ensures.budget
