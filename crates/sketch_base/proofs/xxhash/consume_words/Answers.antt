use Rattle.std.proofs.Common.{◌*◌, ℕ, refl, ap, sym, ◌∙◌, add-one}
use Rattle.sketch_base.specs.Xxh64.{consume_word, consume_words}
use Rattle.sketch_base.specs.MachineWords.{word_at}
use Rattle.sketch_base.proofs.xxhash.consume_words.Goals as goal

pub each-init : goal.each-init
unfolding consume_words
each-init c = refl

pub each-preserved : goal.each-preserved
unfolding consume_words
each-preserved c =
    c.consume_word-h.ensures ∙ (ap (λ (k : ℕ). consume_word c.each.h k) c.word_at.ensures
    ∙ (ap (λ (h : ℕ). consume_word h (word_at c.args.rest.now (8 * c.each.i))) c.each.invariant ∙ sym (ap (λ (n : ℕ). consume_words n c.args.h c.args.rest.now) (add-one c.each.i))))
