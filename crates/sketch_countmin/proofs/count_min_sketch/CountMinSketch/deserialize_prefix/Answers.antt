use Rattle.std.proofs.Common.{◌≡◌, rules}
use Rattle.sketch_countmin.specs.Image.{prefix_bytes}
use Rattle.sketch_countmin.proofs.RoundTrips.{front_read}
use Rattle.sketch_countmin.proofs.count_min_sketch.CountMinSketch.deserialize_prefix.Goals as goal

pub returns-clause-front : goal.returns-clause-front
returns-clause-front g c =
    let used : c.if-preamble.used ≡ prefix_bytes c.args.image.now = search rules in
    front_read g.T.CountMinValue.least g.T.CountMinValue.greatest c.args.options.seed g.met.T.CountMinValue.zero_fits g.met.T.CountMinValue.bytes_fit c.args.image.now _ c.if-preamble.used c.in_ok-sketch.ensures.image used
