use Rattle.std.proofs.Common.{◌-◌, length}
use Rattle.sketch_base.proofs.SplitWords.{HasSkipped}
use Rattle.sketch_base.proofs.byte_words.next_word_of_bytes.Given as goal

abbrev pub invariant-loop-start : goal.invariant-loop-start
invariant-loop-start l = HasSkipped l.separator l.bytes l.start

abbrev pub decreases-loop-start : goal.decreases-loop-start
decreases-loop-start l = length l.bytes - l.start
