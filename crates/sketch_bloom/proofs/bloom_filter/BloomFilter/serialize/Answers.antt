use Rattle.std.proofs.Common.{ℕ, ◌<◌, ◌^◌, ◌++◌, subst, ◌∙◌}
use Rattle.std.specs.Int.{w64, to_le_bytes}
use Rattle.sketch_base.specs.Fields.{bytes_of_words}
use Rattle.sketch_bloom.specs.Image.{IsSpelled, preamble}
use Rattle.sketch_bloom.specs.State.{FilterState}
use Rattle.sketch_bloom.proofs.Spellings.{spelled_empty, spelled_full}
use Rattle.sketch_bloom.proofs.bloom_filter.BloomFilter.serialize.Goals as goal

pub returns-then-self-eq0-clause-image : goal.returns-then-self-eq0-clause-image
returns-then-self-eq0-clause-image c =
    let f = c.self.inside in
    let image = c.in_ok-empty.empty.items in
    subst (λ (s : FilterState). IsSpelled image s) c.self.view_is
    (spelled_empty image f.bits f.bits_used c.self.invariant (subst (λ (n : ℕ). n < 2 ^ 64) c.seed-seed.ensures c.seed-seed.type_inv) c.if-self-eq0.true
    (c.in_ok-empty.ensures ∙ (λ i. preamble 3 4 (c.num_hashes-num_hashes.ensures i) (c.seed-seed.ensures i) (c.num_words.ensures.value i))))

pub returns-clause-image : goal.returns-clause-image
returns-clause-image c =
    let f = c.self.inside in
    let image = c.in_ok-full.full.items in
    let words = c.words.result.now in
    subst (λ (s : FilterState). IsSpelled image s) c.self.view_is
    (spelled_full image words f.bits f.bits_used c.self.invariant (subst (λ (n : ℕ). n < 2 ^ 64) c.seed-seed.ensures c.seed-seed.type_inv) c.words.ensures c.if-self-eq0.false
    (c.in_ok-full.ensures ∙ (λ i. preamble 4 0 (c.num_hashes-num_hashes.ensures i) (c.seed-seed.ensures i) (c.words.ensures.count i) ++ to_le_bytes w64 f.bits_used ++ bytes_of_words words)))
