use Rattle.any_sketch.proofs.BoundsLemmas.{bounds_of_keys}
use Rattle.any_sketch.proofs.frequent_batches.bounds_of_all.Goals as goal

pub returns : goal.returns
returns g c = bounds_of_keys g.T.PartialEq.eq c.args.sketch.now (g.K.Keys.names c.args.keys) c.bounds_all.new.bounds c.bounds_all.ensures.value c.bounds_all.ensures.bound
