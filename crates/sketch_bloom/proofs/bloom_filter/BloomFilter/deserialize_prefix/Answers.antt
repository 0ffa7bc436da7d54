use Rattle.std.proofs.Common.{◌≡◌, rules}
use Rattle.sketch_bloom.specs.Image.{prefix_bytes}
use Rattle.sketch_bloom.proofs.RoundTrips.{front_read}
use Rattle.sketch_bloom.proofs.bloom_filter.BloomFilter.deserialize_prefix.Goals as goal

pub returns-clause-front : goal.returns-clause-front
returns-clause-front c =
    let used : c.if-preamble.used ≡ prefix_bytes c.args.image.now = search rules in
    front_read c.args.image.now _ c.if-preamble.used c.in_ok-filter.ensures.image used
