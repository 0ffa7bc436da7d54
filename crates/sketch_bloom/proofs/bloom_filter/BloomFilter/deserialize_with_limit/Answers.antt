use Rattle.std.proofs.Common.{sym, ap, subst, ◌∙◌, inl, inr, arith}
use Rattle.std.proofs.lemmas.Result.{IfOk-from_err}
use Rattle.std.specs.FinSet as set
use Rattle.sketch_bloom.specs.Image.{IsImage}
use Rattle.sketch_bloom.specs.State.{FilterState}
use Rattle.sketch_bloom.proofs.Images.{image_of_words, restores}
use Rattle.sketch_bloom.proofs.bloom_filter.BloomFilter.deserialize_with_limit.Goals as goal
use Rattle.sketch_bloom.proofs.bloom_filter.BloomFilter.deserialize_with_limit.Goals.{else-stored-via-then-stored+else-stored-bits_used, else-stored-via-else-stored}

pub invariant_of-result : goal.invariant_of-result
invariant_of-result c = record {
  state = c.new.ensures.state;
  bits_used_is = c.in_ok-words.ensures.size ∙ ap (λ (s : FilterState). set.len s.set) (sym c.new.ensures.value);
}

pub returns-clause-image : goal.returns-clause-image
returns-clause-image c =
    subst (λ (s : FilterState). IsImage c.args.image.now s) (sym c.new.ensures.value)
    (image_of_words c.args.image.now c.in_ok-words.words.items c.in_ok-preamble.preamble c.in_ok-words.bits_used
    c.in_ok-preamble.ensures.fields c.in_ok-preamble.ensures.checks c.if-preamble.false c.in_ok-words.ensures.words c.in_ok-words.ensures.size
    (elim c.else-stored.branch [
      | else-stored-via-then-stored+else-stored-bits_used w ↦ inr (sym c.u64_at-stored.ensures ∙ w.if-stored-bits_used.false)
      | else-stored-via-else-stored w ↦ inl (sym c.u64_at-stored.ensures ∙ w.if-stored.false)
    ]))

pub returns-clause-stands : goal.returns-clause-stands
returns-clause-stands c = restores c.args.image.now _ (returns-clause-image c)

pub returns-clause-within : goal.returns-clause-within
returns-clause-within c = omega (arith, ap (λ (s : FilterState). s.num_words) c.new.ensures.value, c.in_ok-words.ensures.count, c.if-preamble-max_bytes.false)

pub returns-in_err-preamble-clause-image : goal.returns-in_err-preamble-clause-image
returns-in_err-preamble-clause-image c = IfOk-from_err c.from_residual.result _ c.from_residual.ensures.0

pub returns-in_err-preamble-clause-state : goal.returns-in_err-preamble-clause-state
returns-in_err-preamble-clause-state c = IfOk-from_err c.from_residual.result _ c.from_residual.ensures.0

pub returns-in_err-preamble-clause-stands : goal.returns-in_err-preamble-clause-stands
returns-in_err-preamble-clause-stands c = IfOk-from_err c.from_residual.result _ c.from_residual.ensures.0

pub returns-in_err-preamble-clause-within : goal.returns-in_err-preamble-clause-within
returns-in_err-preamble-clause-within c = IfOk-from_err c.from_residual.result _ c.from_residual.ensures.0

pub returns-in_err-words-clause-image : goal.returns-in_err-words-clause-image
returns-in_err-words-clause-image c = IfOk-from_err c.from_residual-in_err-words.result _ c.from_residual-in_err-words.ensures.0

pub returns-in_err-words-clause-state : goal.returns-in_err-words-clause-state
returns-in_err-words-clause-state c = IfOk-from_err c.from_residual-in_err-words.result _ c.from_residual-in_err-words.ensures.0

pub returns-in_err-words-clause-stands : goal.returns-in_err-words-clause-stands
returns-in_err-words-clause-stands c = IfOk-from_err c.from_residual-in_err-words.result _ c.from_residual-in_err-words.ensures.0

pub returns-in_err-words-clause-within : goal.returns-in_err-words-clause-within
returns-in_err-words-clause-within c = IfOk-from_err c.from_residual-in_err-words.result _ c.from_residual-in_err-words.ensures.0
