use Rattle.sketch_base.specs.Split.{words_by}
use Rattle.sketch_base.proofs.PartsUtf8.{words_utf8, nth_utf8}
use Rattle.sketch_base.proofs.words.nth_word.Goals as goal

pub from_utf8_unchecked-requires : goal.from_utf8_unchecked-requires
from_utf8_unchecked-requires c =
    nth_utf8 c.args.index (words_by c.args.separator c.as_bytes.result.now) c.in_ok-word.word.now (words_utf8 c.args.separator c.as_bytes.result.now c.as_bytes.ensures.utf8) c.in_ok-word.ensures
