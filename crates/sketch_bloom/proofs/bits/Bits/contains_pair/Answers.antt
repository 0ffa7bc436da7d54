use Rattle.std.proofs.Common.{ap, ◌∙◌}
use Rattle.std.specs.FinSet as set
use Rattle.sketch_bloom.specs.State.{capacity_of}
use Rattle.sketch_bloom.proofs.Sets.{is_subset-empty}
use Rattle.sketch_bloom.proofs.Placing.{positions-zero}
use Rattle.sketch_bloom.proofs.bits.Bits.contains_pair.Goals as goal

pub contains_others-requires-clause-found : goal.contains_others-requires-clause-found
contains_others-requires-clause-found g c =
    ap (λ placed. set.is_subset placed c.args.self.now.set) (positions-zero (capacity_of c.args.self.now) c.args.pair.0 c.args.pair.1) ∙ is_subset-empty c.args.self.now.set
