use Rattle.std.proofs.Common.{rules, pos}
use Rattle.std.specs.Hash as fed
use Rattle.sketch_base.specs.Hashes.{fed_bytes}
use Rattle.sketch_countmin.specs.History as counts
use Rattle.sketch_countmin.specs.Stands.{StandsFor}
use Rattle.examples.proofs.callers.aged_estimate.Goals as goal

pub returns : goal.returns
returns c =
    let came : StandsFor _ (counts.Update (counts.New 4 128 9001) (fed_bytes fed.u64 c.args.item) (pos c.args.bytes)) =
    c.in_ok-update_with_weight.ensures.stands _ c.in_ok-recent.ensures.stands in
    (c.estimate.ensures.encloses _ (c.halve.ensures.stands _ came) (search rules)).0
