use Rattle.std.proofs.Common.{◌≡◌, false, ◌<◌, ◌∙◌, length, get_or, drop, sym, arith}
use Rattle.sketch_base.specs.Split.{separates}
use Rattle.sketch_base.proofs.SplitWords.{skips, first_word, nothing_left, plain_after}
use Rattle.sketch_base.proofs.byte_words.next_word_of_bytes.Goals as goal
use Rattle.sketch_base.proofs.byte_words.next_word_of_bytes.Goals.{then-loop-start-test+else-separates, else-loop-start-test}

pub loop-start-preserved : goal.loop-start-preserved
loop-start-preserved c = skips c.args.separator c.args.bytes.now c.loop-start.start c.loop-start.invariant c.loop-start-test.true (sym c.separates.ensures ∙ c.if-separates.true)

-- behind the separators
plain : (c : goal.After-split_at-2) → c.loop-start.start < length c.args.bytes.now → separates c.args.separator (get_or c.args.bytes.now c.loop-start.start 0) ≡ false
plain c =
    elim c.loop-start-test.branch [
      | then-loop-start-test+else-separates w ↦ λ less. sym w.separates.ensures ∙ w.if-separates.false
      | else-loop-start-test w ↦ λ less. absurd (omega (arith, w.loop-start-test.false))
    ]

pub returns-clause-words : goal.returns-clause-words
returns-clause-words c =
    let text = c.split_at.ensures.back in
    sym c.loop-start.invariant.1
    ∙ first_word c.args.separator (drop c.loop-start.start c.args.bytes.now) c.split_at-2.result.0.now c.split_at-2.result.1.now c.first_separator.result (plain_after c.args.separator c.args.bytes.now c.loop-start.start (plain c))
    (rw text at c.first_separator.ensures.value) (rw text at c.first_separator.ensures.bound) (rw text at c.split_at-2.ensures.front) (rw text at c.split_at-2.ensures.back)

pub returns-clause-none : goal.returns-clause-none
returns-clause-none c =
    let text = c.split_at.ensures.back in
    nothing_left c.args.separator (drop c.loop-start.start c.args.bytes.now) c.split_at-2.result.0.now c.split_at-2.result.1.now c.first_separator.result (plain_after c.args.separator c.args.bytes.now c.loop-start.start (plain c))
    (rw text at c.first_separator.ensures.value) (rw text at c.split_at-2.ensures.front) (rw text at c.split_at-2.ensures.back)
