use Rattle.std.proofs.Common.{◌-◌, length}
use Rattle.sketch_base.proofs.FirstWords.{HasTaken}
use Rattle.sketch_base.specs.Split.{words_by}
use Rattle.sketch_base.proofs.split.first_words.Given as goal

abbrev pub invariant-loop-count : goal.invariant-loop-count
invariant-loop-count l = HasTaken l.initial.words (words_by l.fn.separator l.text) l.words l.count l.rest

abbrev pub decreases-loop-count : goal.decreases-loop-count
decreases-loop-count l = length l.initial.words - l.count
