use Rattle.std.proofs.Common.{◌≡◌, ◌*◌, take}
use Rattle.sketch_base.specs.Fields.{bytes_of_words}
use Rattle.sketch_bloom.proofs.image.write_words.Given as goal

-- the words so far are there
abbrev pub invariant-loop-i : goal.invariant-loop-i
invariant-loop-i l = take (8 * l.i) l.out ≡ bytes_of_words (take l.i l.words)
