use Rattle.sketch_frequencies.proofs.StepsByKey.{on_ok}
use Rattle.sketch_frequencies.proofs.frequent_items_sketch.FrequentItemsSketch.update_ref.Goals as goal

pub returns-clause-stands : goal.returns-clause-stands
returns-clause-stands g c = on_ok c.update_item.result (λ all. all c.args.item.now (g.met.T.Eq.laws.refl c.args.item.now)) c.update_item.ensures.stands

pub returns-clause-budget : goal.returns-clause-budget
returns-clause-budget g c = on_ok c.update_item.result (λ all. all c.args.item.now (g.met.T.Eq.laws.refl c.args.item.now)) c.update_item.ensures.budget
