-- What is written is spelled for the filter.
use Rattle.std.proofs.Common.{◌≡◌, ◌≢◌, ℕ, ◌<◌, ◌^◌, List, ◌++◌, sym, ap, ◌∙◌}
use Rattle.std.specs.Int.{w64, to_le_bytes}
use Rattle.std.specs.Ordering.{nat_cmp}
use Rattle.std.specs.FinSet as set
use Rattle.sketch_base.specs.Fields.{bytes_of_words}
use Rattle.sketch_bloom.specs.Fields.{IsFilter}
use Rattle.sketch_bloom.specs.Image.{IsSpelled, AreWordsOf, preamble}
use Rattle.sketch_bloom.specs.State.{FilterState}

-- a filter without a set bit
pub spelled_empty : (image : List ℕ) (s : FilterState) (bits_used : ℕ) → IsFilter s bits_used → s.seed < 2 ^ 64 → bits_used ≡ 0 → image ≡ preamble 3 4 s.num_hashes s.seed s.num_words → IsSpelled image s
spelled_empty image s bits_used filter fits none is = record {
  state = filter.state;
  seed = fits;
  empty = λ _. is;
  full = λ some. absurd (some (set.empty_of_len s.set (sym filter.bits_used_is ∙ none)));
}

-- a filter with one
pub spelled_full : (image words : List ℕ) (s : FilterState) (bits_used : ℕ) → IsFilter s bits_used → s.seed < 2 ^ 64 → AreWordsOf s words → bits_used ≢ 0 → image ≡ preamble 4 0 s.num_hashes s.seed s.num_words ++ to_le_bytes w64 bits_used ++ bytes_of_words words → IsSpelled image s
spelled_full image words s bits_used filter fits are some is = record {
  state = filter.state;
  seed = fits;
  empty = λ none. absurd (some (filter.bits_used_is ∙ ap set.len none ∙ set.len-empty nat_cmp));
  full = λ _. record { words = words; are_words = are; bytes = rw (sym filter.bits_used_is) is };
}
