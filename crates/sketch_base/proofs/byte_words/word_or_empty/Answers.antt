use Rattle.std.proofs.Common.{ℕ, take, drop, ◌∙◌, ap}
use Rattle.sketch_base.specs.Split.{words_by}
use Rattle.sketch_base.proofs.WordEnds.{only_first}
use Rattle.sketch_base.proofs.byte_words.word_or_empty.Goals as goal

pub returns-then-index-eq0 : goal.returns-then-index-eq0
returns-then-index-eq0 c =
    ap (λ (k : ℕ). take 1 (drop k (words_by c.args.separator c.args.bytes.now))) c.if-index-eq0.true
    ∙ only_first c.next_word_of_bytes.result.0.now (words_by c.args.separator c.args.bytes.now) (words_by c.args.separator c.next_word_of_bytes.result.1.now) c.next_word_of_bytes.ensures.words
