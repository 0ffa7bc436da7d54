use Rattle.std.proofs.Common.{ℕ, get_or, refl, sym, ap, ◌∙◌, arith}
use Rattle.std.specs.List.{fold}
use Rattle.std.proofs.lemmas.List.{take_all}
use Rattle.sketch_bloom.specs.Pairs.{contains_pair, with_pair, pairs_contained}
use Rattle.sketch_bloom.specs.State.{FilterState}
use Rattle.sketch_bloom.proofs.Answering.{contained_more}
use Rattle.sketch_bloom.proofs.Batches.{fold_more}
use Rattle.sketch_bloom.proofs.bloom_filter.BloomFilter.contains_and_insert_pairs.Goals as goal

pub pairs-init : goal.pairs-init
pairs-init c = record { answers = refl; insertions = refl }

pub pairs-preserved : goal.pairs-preserved
pairs-preserved c =
    let pair : ℕ × ℕ = get_or c.args.pairs.now c.pairs.i (0, 0) in
    record {
      answers = contained_more c.args.self.now c.args.pairs.now c.pairs.answers c.pairs.i (0, 0) c.insert_pair.result c.pairs-test.true (omega arith) c.pairs.invariant.answers
          (c.insert_pair.ensures.answer ∙ ap (λ (s : FilterState). contains_pair s pair) c.pairs.invariant.insertions);
      insertions = c.insert_pair.ensures.insertion
          ∙ (ap (λ (s : FilterState). with_pair s pair) c.pairs.invariant.insertions
          ∙ sym (fold_more with_pair c.args.self.now c.args.pairs.now c.pairs.i (0, 0) c.pairs-test.true));
    }

pub returns-clause-answers : goal.returns-clause-answers
returns-clause-answers c =
    sym (take_all c.pairs.i c.pairs.answers (omega arith))
    ∙ (c.pairs.invariant.answers ∙ ap (pairs_contained c.args.self.now) (take_all c.pairs.i c.args.pairs.now c.pairs-test.false))

pub returns-clause-insertions : goal.returns-clause-insertions
returns-clause-insertions c = c.pairs.invariant.insertions ∙ ap (fold with_pair c.args.self.now) (take_all c.pairs.i c.args.pairs.now c.pairs-test.false)
