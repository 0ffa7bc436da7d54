use Rattle.std.proofs.Common.{◌∙◌, sym}
use Rattle.sketch_base.proofs.WordEnds.{only_first}
use Rattle.sketch_base.proofs.byte_words.ByteWords.first_word.Goals as goal

pub returns : goal.returns
returns c = only_first c.next_word_of_bytes.result.0.now _ _ (sym c.self.view_is ∙ c.next_word_of_bytes.ensures.words)
