-- The length of what is written for a filter.
use Rattle.std.proofs.Common.{◌≡◌, ◌≢◌, ℕ, zero, suc, ◌+◌, ◌*◌, ◌<◌, ◌^◌, ◌==◌, Bool, true, false, List, ◌++◌, length, refl, sym, ap, ◌∙◌, eq-eqb, eqb-true, arith, length-append}
use Rattle.std.specs.Prelude.{if◌then◌else◌}
use Rattle.std.specs.Int.{w64, to_le_bytes}
use Rattle.std.specs.FinSet as set
use Rattle.std.specs.Ordering.{nat_cmp}
use Rattle.std.proofs.lemmas.Bool.{false≢true}
use Rattle.sketch_base.specs.Fields.{bytes_of_words}
use Rattle.sketch_bloom.specs.Fields.{IsFilter}
use Rattle.sketch_bloom.specs.Image.{IsSpelled, AreWordsOf, image_bytes, preamble}
use Rattle.sketch_bloom.specs.State.{FilterState}
use Rattle.sketch_bloom.proofs.RoundTrips.{length-bytes_of_words}
use Rattle.sketch_bloom.proofs.Spellings.{spelled_empty, spelled_full}

-- each image that is written for a filter has the length that the filter's shape and set give
pub length-spelled : (image : List ℕ) (s : FilterState) → IsSpelled image s → length image ≡ image_bytes s
length-spelled image s h = by_set (set.len s.set == 0) refl where
  by_set : (b : Bool) → (set.len s.set == 0) ≡ b → length image ≡ (if b then 24 else 32 + 8 * s.num_words)
  by_set true e = ap length (h.empty (set.empty_of_len s.set (eqb-true _ 0 e)))
  by_set false e =
      let some : s.set ≢ set.empty = λ none. false≢true (sym e ∙ eq-eqb _ 0 (ap set.len none ∙ set.len-empty nat_cmp)) in
      let written = h.full some in
      let front = preamble 4 0 s.num_hashes s.seed s.num_words in
      let count = to_le_bytes w64 (set.len s.set) in
      let words = bytes_of_words written.words in
      ap length written.bytes
      ∙ omega (arith, length-append (front ++ count) words, length-bytes_of_words written.words, written.are_words.count)

-- there is an image for the filter with these words
pub some_image : (words : List ℕ) (s : FilterState) (bits_used : ℕ) → IsFilter s bits_used → s.seed < 2 ^ 64 → AreWordsOf s words → (image : List ℕ) × IsSpelled image s
some_image words s zero filter fits are = (preamble 3 4 s.num_hashes s.seed s.num_words, spelled_empty _ s zero filter fits refl refl)
some_image words s (suc n) filter fits are =
    let image = preamble 4 0 s.num_hashes s.seed s.num_words ++ to_le_bytes w64 (suc n) ++ bytes_of_words words in
    (image, spelled_full image words s (suc n) filter fits are (λ none. absurd (omega (arith, none))) refl)
