-- A spelled image is an image: each field is read again as it was written, and all checks pass.
use Rattle.std.proofs.Common.{◌≡◌, ◌≢◌, ℕ, ◌+◌, ◌*◌, ◌<◌, ◌≤◌, ◌^◌, ◌==◌, Bool, true, false, ◌||◌, leb, List, [], ◌∷◌, ◌++◌, All, inr, length, refl, sym, ap, subst, ◌∙◌, append_assoc, eq-eqb, eqb-true, arith, length-append}
use Rattle.std.specs.Int.{w64, to_le_bytes}
use Rattle.std.specs.FinSet as set
use Rattle.std.specs.Ordering.{nat_cmp}
use Rattle.std.proofs.lemmas.Bool.{le-leb, false≢true}
use Rattle.std.proofs.lemmas.Nat.{from_le_bytes-to_le_bytes_2, from_le_bytes-to_le_bytes_4, from_le_bytes-to_le_bytes_8}
use Rattle.std.proofs.lemmas.List.{append-nil}
use Rattle.std.proofs.lemmas.List.Elements.{All-head, All-tail}
use Rattle.sketch_base.specs.Fields.{le_at, words_in, bytes_of_words}
use Rattle.sketch_bloom.specs.BitSet.{set_of}
use Rattle.sketch_bloom.specs.Image.{IsImage, IsSpelled, AreWordsOf, ReadsFront, preamble, prefix_bytes, value_at, num_hashes_at, seed_at, num_words_at, bit_count_at, uncounted}
use Rattle.sketch_bloom.specs.Laws.{SpelledIsImage, SpelledIsFront}
use Rattle.sketch_bloom.specs.State.{FilterState, IsFilterState}
use Rattle.sketch_bloom.proofs.Counting.{len-set_of-le}
use Rattle.sketch_bloom.proofs.Images.{either_true}

-- the words are read as they were written, whatever stands behind them
pub words_back : (words rest : List ℕ) → All (λ word. word < 2 ^ 64) words → words_in (length words) (bytes_of_words words ++ rest) ≡ words
unfolding le_at
words_back [] rest h = refl
words_back (word ∷ words) rest h =
    let P : ℕ → Type 0 = λ n. n < 2 ^ 64 in
    rw (from_le_bytes-to_le_bytes_8 word (All-head P word words h), words_back words rest (All-tail P word words h)) refl

pub length-bytes_of_words : (words : List ℕ) → length (bytes_of_words words) ≡ 8 * length words
length-bytes_of_words [] = refl
length-bytes_of_words (word ∷ words) = omega (arith, length-append (to_le_bytes w64 word) (bytes_of_words words), length-bytes_of_words words)

-- the fields of the preamble are read as they were written, whatever stands behind it
module _ (longs flags num_hashes seed num_words : ℕ) (tail : List ℕ) where
  fields_back : num_hashes < 2 ^ 16 → seed < 2 ^ 64 → num_words < 2 ^ 32 →
      (num_hashes_at (preamble longs flags num_hashes seed num_words ++ tail) ≡ num_hashes)
      × (seed_at (preamble longs flags num_hashes seed num_words ++ tail) ≡ seed)
      × (num_words_at (preamble longs flags num_hashes seed num_words ++ tail) ≡ num_words)
  unfolding le_at
  fields_back few_hashes fits few_words =
      (from_le_bytes-to_le_bytes_2 num_hashes few_hashes, from_le_bytes-to_le_bytes_8 seed fits, from_le_bytes-to_le_bytes_4 num_words few_words)

  bit_count_back : (count : ℕ) (rest : List ℕ) → count < 2 ^ 64 → bit_count_at (preamble longs flags num_hashes seed num_words ++ to_le_bytes w64 count ++ rest) ≡ count
  unfolding le_at
  bit_count_back count rest fits = from_le_bytes-to_le_bytes_8 count fits

  length_back : length (preamble longs flags num_hashes seed num_words ++ tail) ≡ 24 + length tail
  length_back = length-append (preamble longs flags num_hashes seed num_words) tail

-- the image of a filter whose set is empty
empty_image : (s : FilterState) (rest : List ℕ) → IsFilterState s → s.seed < 2 ^ 64 → s.set ≡ set.empty → IsImage (preamble 3 4 s.num_hashes s.seed s.num_words ++ rest) s
empty_image s rest state fits none =
    let image = preamble 3 4 s.num_hashes s.seed s.num_words ++ rest in
    let back = fields_back 3 4 s.num_hashes s.seed s.num_words rest (omega (arith, state.few_hashes)) fits (omega (arith, state.few_words)) in
    let long = length_back 3 4 s.num_hashes s.seed s.num_words rest in
    let some_hashes : leb 1 s.num_hashes ≡ true = le-leb _ _ state.some_hashes in
    let few_hashes : leb s.num_hashes 32767 ≡ true = le-leb _ _ state.few_hashes in
    let some_words : leb 1 s.num_words ≡ true = le-leb _ _ state.some_words in
    let few_words : leb s.num_words 2147483647 ≡ true = le-leb _ _ state.few_words in
    let has : (n : ℕ) → n ≤ length image → leb n (length image) ≡ true = λ n le. le-leb _ _ le in
    record {
      no_fault = rw (back.0, back.2, some_hashes, few_hashes, some_words, few_words, has 4 (omega (arith, long)), has 6 (omega (arith, long)), has 24 (omega (arith, long))) refl;
      value = rw (back.0, back.2, back.1, sym none) refl;
    }

-- the image of a filter whose set is not empty
module _ (s : FilterState) (words rest : List ℕ) (state : IsFilterState s) (fits : s.seed < 2 ^ 64) (are : AreWordsOf s words) where
  abbrev after_preamble : List ℕ
  after_preamble = to_le_bytes w64 (set.len s.set) ++ (bytes_of_words words ++ rest)

  abbrev whole : List ℕ
  whole = preamble 4 0 s.num_hashes s.seed s.num_words ++ after_preamble

  num_words_is : num_words_at whole ≡ s.num_words
  num_words_is = (fields_back 4 0 s.num_hashes s.seed s.num_words after_preamble (omega (arith, state.few_hashes)) fits (omega (arith, state.few_words))).2

  full_image : IsImage whole s
  full_image =
      let count = set.len s.set in
      let back = fields_back 4 0 s.num_hashes s.seed s.num_words after_preamble (omega (arith, state.few_hashes)) fits (omega (arith, state.few_words)) in
      let hashes : num_hashes_at whole ≡ s.num_hashes = back.0 in
      let seed : seed_at whole ≡ s.seed = back.1 in
      let few : count < 2 ^ 64 = omega (arith, len-set_of-le words, ap set.len are.set, are.count, state.few_words) in
      let stored : bit_count_at whole ≡ count = bit_count_back 4 0 s.num_hashes s.seed s.num_words after_preamble count (bytes_of_words words ++ rest) few in
      let long : length whole ≡ 32 + 8 * s.num_words + length rest = omega (arith, length_back 4 0 s.num_hashes s.seed s.num_words after_preamble, length-append (to_le_bytes w64 count) (bytes_of_words words ++ rest), length-append (bytes_of_words words) rest, length-bytes_of_words words, are.count) in
      let read = words_in s.num_words (bytes_of_words words ++ rest) in
      let set_is : set_of read ≡ s.set = ap (λ (n : ℕ). set_of (words_in n (bytes_of_words words ++ rest))) (sym are.count) ∙ ap set_of (words_back words rest are.fit) ∙ are.set in
      let some_hashes : leb 1 s.num_hashes ≡ true = le-leb _ _ state.some_hashes in
      let few_hashes : leb s.num_hashes 32767 ≡ true = le-leb _ _ state.few_hashes in
      let some_words : leb 1 s.num_words ≡ true = le-leb _ _ state.some_words in
      let few_words : leb s.num_words 2147483647 ≡ true = le-leb _ _ state.few_words in
      let has : (n : ℕ) → n ≤ length whole → leb n (length whole) ≡ true = λ n le. le-leb _ _ le in
      let counted : ((bit_count_at whole == uncounted) || (bit_count_at whole == set.len (set_of read))) ≡ true = either_true _ _ (inr (eq-eqb _ _ (stored ∙ ap set.len (sym set_is)))) in
      record {
        no_fault = rw (hashes, num_words_is, some_hashes, few_hashes, some_words, few_words, has (32 + 8 * s.num_words) (omega (arith, long)), counted, has 4 (omega (arith, long)), has 6 (omega (arith, long)), has 24 (omega (arith, long))) refl;
        value = rw (hashes, num_words_is, seed, set_is) refl;
      }

  whole_is : (image : List ℕ) → image ≡ preamble 4 0 s.num_hashes s.seed s.num_words ++ to_le_bytes w64 (set.len s.set) ++ bytes_of_words words → image ++ rest ≡ whole
  whole_is image is =
      let front = preamble 4 0 s.num_hashes s.seed s.num_words in
      let count = to_le_bytes w64 (set.len s.set) in
      ap (λ (l : List ℕ). l ++ rest) is ∙ append_assoc front (count ++ bytes_of_words words) rest ∙ ap (λ (l : List ℕ). front ++ l) (append_assoc count (bytes_of_words words) rest)

  full_prefix : (image : List ℕ) → image ≡ preamble 4 0 s.num_hashes s.seed s.num_words ++ to_le_bytes w64 (set.len s.set) ++ bytes_of_words words → prefix_bytes whole ≡ length image
  full_prefix image is =
      let front = preamble 4 0 s.num_hashes s.seed s.num_words in
      let count = to_le_bytes w64 (set.len s.set) in
      omega (arith, num_words_is, ap length is, length-append front (count ++ bytes_of_words words), length-append count (bytes_of_words words), length-bytes_of_words words, are.count)

-- what is spelled is an image, and is read to its end, whatever stands behind it
pub spelled_is_front : SpelledIsFront
spelled_is_front image rest s h = by_set s h (set.len s.set == 0) refl where
  by_set : (s : FilterState) → IsSpelled image s → (b : Bool) → (set.len s.set == 0) ≡ b → IsImage (image ++ rest) s × (prefix_bytes (image ++ rest) ≡ length image)
  by_set s h true e =
      let none : s.set ≡ set.empty = set.empty_of_len s.set (eqb-true _ 0 e) in
      subst (λ (bytes : List ℕ). IsImage (bytes ++ rest) s × (prefix_bytes (bytes ++ rest) ≡ length bytes)) (sym (h.empty none)) (empty_image s rest h.state h.seed none, refl)
  by_set s h false e =
      let some : s.set ≢ set.empty = λ none. false≢true (sym e ∙ eq-eqb _ 0 (ap set.len none ∙ set.len-empty nat_cmp)) in
      let written = h.full some in
      subst (λ (bytes : List ℕ). IsImage bytes s × (prefix_bytes bytes ≡ length image)) (sym (whole_is s written.words rest h.state h.seed written.are_words image written.bytes))
      (full_image s written.words rest h.state h.seed written.are_words, full_prefix s written.words rest h.state h.seed written.are_words image written.bytes)

pub spelled_is_image : SpelledIsImage
spelled_is_image image s h = subst (λ (bytes : List ℕ). IsImage bytes s) (append-nil image) (spelled_is_front image [] s h).0

-- what is read at the front of bytes
pub front_read : (bytes : List ℕ) (new : FilterState) (used : ℕ) → IsImage bytes new → used ≡ prefix_bytes bytes → ReadsFront bytes new used
front_read bytes new used read used_is image rest old spelled is =
    let front = spelled_is_front image rest old spelled in
    let value = subst (λ (b : List ℕ). new ≡ value_at b) is read.value in
    (value ∙ sym front.0.value, used_is ∙ ap prefix_bytes is ∙ front.1)
