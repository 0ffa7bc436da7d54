-- A view of an image: its words are bytes of the image, or a word of zeros.
use Rattle.std.proofs.Common.{◌≡◌, ℕ, ◌+◌, ◌*◌, ◌/◌, ◌<◌, ◌≤◌, Bool, true, false, if◌then◌else◌, ◌⊎◌, inl, inr, List, [], ◌∷◌, take, drop, replicate, length, refl, sym, ap, subst, ◌∙◌, arith, length-drop}
use Rattle.std.specs.FinSet as set
use Rattle.sketch_base.specs.Fields.{le_at, words_in}
use Rattle.sketch_bloom.specs.BitSet.{set_of, words_of_bytes}
use Rattle.sketch_bloom.specs.Fields.{IsView, state_of, view_of}
use Rattle.sketch_bloom.specs.Image.{value_at}
use Rattle.sketch_bloom.specs.Preamble.{IsPreamble}
use Rattle.sketch_bloom.specs.State.{FilterState, IsFilterState, contains_item}
use Rattle.sketch_bloom.specs.declared.image.Preamble.{Preamble}
use Rattle.sketch_bloom.proofs.ByteWords.{words_of_part}
use Rattle.sketch_bloom.proofs.Images.{length-words_in}
use Rattle.sketch_bloom.proofs.Members.{set_of-zeros, zero_everywhere}
use Rattle.sketch_bloom.proofs.SetAlgebra.{empty_contains_nothing}
use Rattle.sketch_bloom.proofs.Sets.{contains-empty}

-- bits that have the number of words, or are all 0, are those of a view
pub view_fields : (bits : FilterState) (num_words : ℕ) → IsFilterState bits → 1 ≤ num_words → num_words ≤ 2147483647 → (bits.num_words ≡ num_words) ⊎ (bits.set ≡ set.empty) → IsView bits num_words
view_fields bits num_words state some few same = record {
  state = record {
    some_words = some;
    few_words = few;
    some_hashes = state.some_hashes;
    few_hashes = state.few_hashes;
    within = λ p has. elim same as (λ _. p < 64 * num_words) [
      | inl e ↦ subst (λ (n : ℕ). p < 64 * n) e (state.within p has)
      | inr none ↦ absurd (let lacks = ap (λ s. set.contains s p) none ∙ contains-empty p in cc)
    ];
  };
  bits_state = state;
  same = same;
}

-- an item is in the bits if it is in the view
pub contains_in_view : (bits : FilterState) (num_words : ℕ) → IsView bits num_words → (bytes : List ℕ) → contains_item bits bytes ≡ contains_item (view_of bits num_words) bytes
contains_in_view bits num_words v bytes = elim v.same as (λ _. contains_item bits bytes ≡ contains_item (view_of bits num_words) bytes) [
  | inl same ↦ ap (λ (n : ℕ). contains_item (view_of bits n) bytes) same
  | inr none ↦ empty_contains_nothing bits bytes v.bits_state none ∙ sym (empty_contains_nothing (view_of bits num_words) bytes v.state none)
]

-- the bytes that a view of an image has
abbrev pub bytes_for : List ℕ → Preamble → List ℕ
bytes_for image p = if p.is_empty then replicate 8 0 else take (8 * p.num_words) (drop 32 image)

-- eight bytes of zeros are a word of zeros
word_of_zeros : words_of_bytes (replicate 8 0) ≡ 0 ∷ []
unfolding le_at
word_of_zeros = refl

-- a word of zeros, or the words of the image
pub ShownWords : List ℕ → List ℕ → Preamble → Type 0
ShownWords image words p = ((p.is_empty ≡ true) × (words ≡ 0 ∷ [])) ⊎ ((p.is_empty ≡ false) × (words ≡ words_in p.num_words (drop 32 image)))

-- are the words of those bytes
pub shown_words : (image bytes : List ℕ) (p : Preamble) → (p.is_empty ≡ false → 32 + 8 * p.num_words ≤ length image) → bytes ≡ bytes_for image p → ShownWords image (words_of_bytes bytes) p
unfolding ShownWords
shown_words image bytes p there are = by_mark p.is_empty refl where
  by_mark : (b : Bool) → p.is_empty ≡ b → ((p.is_empty ≡ true) × (words_of_bytes bytes ≡ 0 ∷ [])) ⊎ ((p.is_empty ≡ false) × (words_of_bytes bytes ≡ words_in p.num_words (drop 32 image)))
  by_mark true e = inl (e, ap words_of_bytes (are ∙ ap (λ (t : Bool). if t then replicate 8 0 else take (8 * p.num_words) (drop 32 image)) e) ∙ word_of_zeros)
  by_mark false e = inr (e, ap words_of_bytes (are ∙ ap (λ (t : Bool). if t then replicate 8 0 else take (8 * p.num_words) (drop 32 image)) e) ∙ words_of_part p.num_words (drop 32 image) (omega (arith, there e, length-drop 32 image)))

-- there is one at least, and not too many
pub count_shown : (image bytes : List ℕ) (p : Preamble) → ShownWords image (words_of_bytes bytes) p → 1 ≤ p.num_words → p.num_words ≤ 2147483647 → (1 ≤ length bytes / 8) × (length bytes / 8 ≤ 2147483647)
unfolding ShownWords
count_shown image bytes p shown some few =
    let count : length (words_of_bytes bytes) ≡ length bytes / 8 = length-words_in (length bytes / 8) bytes in
    elim shown as (λ _. (1 ≤ length bytes / 8) × (length bytes / 8 ≤ 2147483647)) [
      | inl (e, is) ↦ let one = ap length is in (omega arith, omega arith)
      | inr (e, is) ↦ let all = ap length is ∙ length-words_in p.num_words (drop 32 image) in (omega arith, omega arith)
    ]

-- the set of a word of zeros is empty
no_bits : (words : List ℕ) → words ≡ 0 ∷ [] → set_of words ≡ set.empty
no_bits words is = set_of-zeros words (zero_everywhere words 1 is)

-- as many as the image states, or no bit is set
pub same_shown : (image words : List ℕ) (p : Preamble) → ShownWords image words p → (length words ≡ p.num_words) ⊎ (set_of words ≡ set.empty)
unfolding ShownWords
same_shown image words p (inl (e, is)) = inr (no_bits words is)
same_shown image words p (inr (e, is)) = inl (ap length is ∙ length-words_in p.num_words (drop 32 image))

-- the view is the value of the image
pub view_value : (image words : List ℕ) (p : Preamble) → ShownWords image words p → IsPreamble image p → view_of (state_of words p.num_hashes p.seed) p.num_words ≡ value_at image
unfolding ShownWords
view_value image words p (inl (e, is)) fields = rw (no_bits words is, sym fields.is_empty ∙ e, fields.num_words, fields.num_hashes, fields.seed) refl
view_value image words p (inr (e, is)) fields = rw (is, sym fields.is_empty ∙ e, fields.num_words, fields.num_hashes, fields.seed) refl
