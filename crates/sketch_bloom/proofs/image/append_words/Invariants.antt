use Rattle.std.proofs.Common.{◌≡◌, ◌-◌, ◌≤◌, ◌++◌, length, take}
use Rattle.sketch_base.specs.Fields.{bytes_of_words}
use Rattle.sketch_bloom.proofs.image.append_words.Given as goal

-- the words before `start` are appended
abbrev pub invariant-appends : goal.invariant-appends
invariant-appends l = record {
  within : l.start ≤ length l.words;
  written : l.image.items ≡ l.initial.image.items ++ bytes_of_words (take l.start l.words);
}

abbrev pub decreases-appends : goal.decreases-appends
decreases-appends l = length l.words - l.start
