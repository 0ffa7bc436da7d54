use Rattle.std.proofs.Common.{length}
use denote.Text.{Utf8}
use denote.Shadow.{shadow}
use Rattle.examples.proofs.sketch_base_docs.words.last_word.Given as goal

abbrev pub invariant-loop-word : goal.invariant-loop-word
invariant-loop-word l = shadow (Utf8 l.last)

abbrev pub decreases-loop-word : goal.decreases-loop-word
decreases-loop-word l = length l.words
