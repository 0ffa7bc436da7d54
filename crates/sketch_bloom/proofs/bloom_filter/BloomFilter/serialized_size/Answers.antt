use Rattle.std.proofs.Common.{◌≡◌, ◌<◌, ◌^◌, ℕ, List, sym, subst, ◌∙◌, arith, rules}
use Rattle.sketch_bloom.specs.Image.{IsSpelled, image_bytes}
use Rattle.sketch_bloom.specs.State.{FilterState}
use Rattle.sketch_bloom.proofs.ImageLengths.{length-spelled, some_image}
use Rattle.sketch_bloom.proofs.bloom_filter.BloomFilter.serialized_size.Goals as goal

pub returns-clause-some : goal.returns-clause-some
returns-clause-some c =
    let f = c.self.inside in
    let fits : f.bits.seed < 2 ^ 64 = omega arith in
    subst (λ (s : FilterState). (image : List ℕ) × IsSpelled image s) c.self.view_is
    (some_image c.words.result.now f.bits f.bits_used c.self.invariant fits c.words.ensures)

pub returns-clause-each : goal.returns-clause-each
returns-clause-each c =
    let size : c.image_length.result ≡ image_bytes c.args.self.now = search rules in
    λ image spelled. length-spelled image c.args.self.now spelled ∙ sym size
