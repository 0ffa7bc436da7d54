use Rattle.std.proofs.Common.{◌≡◌, ◌<◌, ◌+◌, ◌-◌, ◌*◌, ◌≤◌, ◌^◌, ◌++◌, drop, All, vec_len, vec_capacity}
use Rattle.std.specs.List.{sum_by}
use Rattle.std.specs.Int.RustNames.{count_ones}
use Rattle.sketch_base.specs.Fields.{words_in}
use Rattle.sketch_bloom.proofs.image.read_words.Given as goal

-- the words read so far and those that are still to be read are all of them, there is room for them, and the bits that
-- are set in those read so far are counted
abbrev pub invariant-reads : goal.invariant-reads
invariant-reads l = record {
  words : l.words.items ++ words_in (l.num_words - l.i) (drop (32 + 8 * l.i) l.image) ≡ words_in l.num_words (drop 32 l.image);
  count : vec_len l.words ≡ l.i;
  room : l.num_words ≤ vec_capacity l.words;
  fit : All (λ word. word < 2 ^ 64) l.words.items;
  size : l.size ≡ sum_by count_ones l.words.items;
  few : l.size ≤ 64 * l.i;
}
