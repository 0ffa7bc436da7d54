use Rattle.std.proofs.Common.{ℕ, sym, ap, ◌∙◌, subst}
use Rattle.sketch_bloom.specs.History.BloomHistory.{Insert}
use Rattle.sketch_bloom.specs.Pairs.{pair_of, contains_pair, with_pair}
use Rattle.sketch_bloom.specs.Stands.{StandsFor}
use Rattle.sketch_bloom.specs.State.{FilterState}
use Rattle.sketch_bloom.proofs.Inserting.{inserted_stands}
use Rattle.sketch_bloom.proofs.bloom_filter.BloomFilter.contains_and_insert_item.Goals as goal

pub returns-clause-answer : goal.returns-clause-answer
returns-clause-answer g c =
    let bytes = g.X.Item.bytes c.args.item in
    c.insert_pair.ensures.answer ∙ ap (contains_pair c.args.self.now) (c.hashes_of.ensures ∙ ap (λ (n : ℕ). pair_of n bytes) (c.seed-seed.ensures ∙ ap (λ (s : FilterState). s.seed) c.self.view_is))

pub returns-clause-insertion : goal.returns-clause-insertion
returns-clause-insertion g c =
    let bytes = g.X.Item.bytes c.args.item in
    c.insert_pair.ensures.insertion ∙ ap (with_pair c.args.self.now) (c.hashes_of.ensures ∙ ap (λ (n : ℕ). pair_of n bytes) (c.seed-seed.ensures ∙ ap (λ (s : FilterState). s.seed) c.self.view_is))

pub returns-clause-stands : goal.returns-clause-stands
returns-clause-stands g c = λ h e.
    let bytes = g.X.Item.bytes c.args.item in
    subst (λ (s : FilterState). StandsFor s (Insert h bytes)) (sym (returns-clause-insertion g c)) (inserted_stands c.args.self.now h bytes e)
