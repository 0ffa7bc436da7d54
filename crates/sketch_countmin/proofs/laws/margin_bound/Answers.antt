use Rattle.sketch_countmin.proofs.SuggestedBuckets.{margin_within}
use Rattle.sketch_countmin.proofs.laws.margin_bound.Goals as goal

pub returns : goal.returns
returns c s n = margin_within s.total s.buckets n
