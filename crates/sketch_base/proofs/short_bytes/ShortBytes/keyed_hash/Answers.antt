use Rattle.std.proofs.Common.{◌∙◌, arith, rules, sym}
use Rattle.sketch_base.proofs.SipStrings.{begun_zeros, one_word}
use Rattle.sketch_base.proofs.short_bytes.ShortBytes.keyed_hash.Goals as goal

pub begun_word-requires-clause-zeros : goal.begun_word-requires-clause-zeros
begun_word-requires-clause-zeros c = begun_zeros c.self.inside.buffer c.self.inside.len (search rules) (omega arith) c.self.invariant.1

pub returns-then-self-lt8 : goal.returns-then-self-lt8
returns-then-self-lt8 c =
    c.hash_of_word.ensures
    ∙ one_word c.args.key c.args.self.now c.self.inside.buffer c.self.inside.len c.begun_word.result _ (search rules) (omega arith) (sym c.self.view_is) c.self.invariant.1 c.begun_word.ensures.word (omega arith)

pub returns-else-self-lt8 : goal.returns-else-self-lt8
returns-else-self-lt8 c = c.hash_of_two_words.ensures ∙ c.two_words-first.ensures c.args.key
