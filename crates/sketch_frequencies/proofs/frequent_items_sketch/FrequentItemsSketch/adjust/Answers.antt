use Rattle.sketch_frequencies.proofs.frequent_items_sketch.FrequentItemsSketch.adjust.Goals as goal

pub returns-clause-present : goal.returns-clause-present
returns-clause-present g c = λ t. c.adjust_by_key.ensures.present t c.args.item.now (g.met.T.Eq.laws.refl c.args.item.now)
