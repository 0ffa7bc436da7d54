use Rattle.sketch_base.proofs.PartsUtf8.{taken_utf8}
use Rattle.sketch_base.proofs.words.Words.next_word.Goals as goal

pub from_utf8_unchecked-requires : goal.from_utf8_unchecked-requires
from_utf8_unchecked-requires c = (taken_utf8 c.self.inside.words c.next_word-word.new.self c.next_word-word.result.now c.self.invariant c.next_word-word.ensures.words c.next_word-word.ensures.none).0

pub invariant_of-self : goal.invariant_of-self
invariant_of-self c = (taken_utf8 c.self.inside.words c.next_word-word.new.self c.next_word-word.result.now c.self.invariant c.next_word-word.ensures.words c.next_word-word.ensures.none).1
