use Rattle.std.proofs.Common.{◌/◌, length, ◌≡◌, ◌⊎◌, sym, subst, ap, ◌∙◌}
use Rattle.std.specs.FinSet as set
use Rattle.sketch_bloom.specs.BitSet.{words_of_bytes}
use Rattle.sketch_bloom.specs.Fields.{view_of}
use Rattle.sketch_bloom.specs.State.{FilterState}
use Rattle.sketch_bloom.proofs.Images.{length-words_in, value_restores}
use Rattle.sketch_bloom.proofs.Views.{ShownWords, shown_words, count_shown, same_shown, view_fields, view_value}
use Rattle.sketch_bloom.proofs.bloom_filter_view.BloomFilterView.new.Goals as goal
use Rattle.sketch_bloom.proofs.bloom_filter_view.BloomFilterView.new.Goals.{After-bytes_of_set-bytes}

-- the words of the view
shown : (c : After-bytes_of_set-bytes) → ShownWords c.args.image.now (words_of_bytes c.bytes_of_set-bytes.result.now) c.in_ok-preamble.preamble
shown c = shown_words c.args.image.now c.bytes_of_set-bytes.result.now c.in_ok-preamble.preamble c.in_ok-preamble.ensures.words c.bytes_of_set-bytes.ensures

pub new-requires-clause-num_words : goal.new-requires-clause-num_words
new-requires-clause-num_words c = length-words_in (length c.bytes_of_set-bytes.result.now / 8) c.bytes_of_set-bytes.result.now

pub new-requires-clause-some_words : goal.new-requires-clause-some_words
new-requires-clause-some_words c = (count_shown c.args.image.now c.bytes_of_set-bytes.result.now c.in_ok-preamble.preamble (shown (goal.at.new-requires-clause-some_words c).After-bytes_of_set-bytes) c.in_ok-preamble.ensures.some_words c.in_ok-preamble.ensures.few_words).0

pub new-requires-clause-few_words : goal.new-requires-clause-few_words
new-requires-clause-few_words c = (count_shown c.args.image.now c.bytes_of_set-bytes.result.now c.in_ok-preamble.preamble (shown (goal.at.new-requires-clause-few_words c).After-bytes_of_set-bytes) c.in_ok-preamble.ensures.some_words c.in_ok-preamble.ensures.few_words).1

pub invariant_of-result : goal.invariant_of-result
invariant_of-result c =
    let p = c.in_ok-preamble.preamble in
    view_fields c.new.result p.num_words c.new.ensures.state c.in_ok-preamble.ensures.some_words c.in_ok-preamble.ensures.few_words
    (subst (λ (s : FilterState). (s.num_words ≡ p.num_words) ⊎ (s.set ≡ set.empty)) (sym c.new.ensures.value) (same_shown c.args.image.now _ p (shown (goal.at.invariant_of-result c).After-bytes_of_set-bytes)))

pub returns-clause-value : goal.returns-clause-value
returns-clause-value c =
    let p = c.in_ok-preamble.preamble in
    ap (λ (s : FilterState). view_of s p.num_words) c.new.ensures.value ∙ view_value c.args.image.now _ p (shown (goal.at.returns-clause-value c).After-bytes_of_set-bytes) c.in_ok-preamble.ensures.fields

pub returns-clause-reads : goal.returns-clause-reads
returns-clause-reads c = λ filter is. returns-clause-value c ∙ sym is.value

pub returns-clause-state : goal.returns-clause-state
returns-clause-state c = (invariant_of-result c).state

pub returns-clause-stands : goal.returns-clause-stands
returns-clause-stands c = value_restores c.args.image.now _ (returns-clause-value c)
