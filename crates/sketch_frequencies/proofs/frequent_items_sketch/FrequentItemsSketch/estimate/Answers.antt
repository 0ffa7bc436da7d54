use Rattle.sketch_frequencies.proofs.frequent_items_sketch.FrequentItemsSketch.estimate.Goals as goal

pub returns-clause-value : goal.returns-clause-value
returns-clause-value g c = c.estimate_item.ensures.item c.args.item.now (g.met.T.Eq.laws.refl c.args.item.now)

pub returns-clause-exact : goal.returns-clause-exact
returns-clause-exact g c = c.estimate_item.ensures.exact c.args.item.now (g.met.T.Eq.laws.refl c.args.item.now)
