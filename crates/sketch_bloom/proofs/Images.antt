-- What is read is what the image says.
use Rattle.std.proofs.Common.{◌≡◌, ℕ, zero, suc, ◌<◌, ◌^◌, ◌==◌, Bool, true, false, ◌||◌, ◌⊎◌, inl, inr, List, [], ◌∷◌, ◌++◌, length, drop, get_or, All, None, refl, sym, ap, subst, ◌∙◌, append_assoc, eq-eqb, arith}
use Rattle.std.specs.Int.{w64}
use Rattle.std.proofs.lemmas.Bool.{cases_lt}
use Rattle.std.proofs.lemmas.List.Elements.{All-get_or}
use Rattle.std.proofs.lemmas.Nat.{pow_pos}
use Rattle.std.proofs.Math.ListN.{get_or-eq_default}
use Rattle.std.specs.FinSet as set
use Rattle.sketch_base.specs.Fields.{le_at, words_in}
use Rattle.sketch_bloom.specs.BitSet.{set_of}
use Rattle.sketch_bloom.specs.History.BloomHistory.{Restored}
use Rattle.sketch_bloom.specs.Image.{IsImage, Restores, early_fault, bit_count_at, uncounted, value_at}
use Rattle.sketch_bloom.specs.Preamble.{IsPreamble}
use Rattle.sketch_bloom.specs.Stands.{StandsFor}
use Rattle.sketch_bloom.specs.State.{FilterState}
use Rattle.sketch_bloom.specs.declared.image.Preamble.{Preamble}
use Rattle.sketch_bloom.specs.Fields.{state_of}

-- so many words are read
pub length-words_in : (n : ℕ) (bytes : List ℕ) → length (words_in n bytes) ≡ n
length-words_in zero bytes = refl
length-words_in (suc n) bytes = omega (arith, length-words_in n (drop 8 bytes))

-- a word that was read is the first of those that were still to be read
pub next_word : (words : List ℕ) (left after index word : ℕ) (bytes rest : List ℕ) → left ≡ suc after → word ≡ le_at w64 bytes index → rest ≡ drop 8 (drop index bytes) → (words ++ word ∷ []) ++ words_in after rest ≡ words ++ words_in left (drop index bytes)
unfolding le_at
next_word words left after index word bytes rest left_is word_is rest_is =
    rw (left_is, word_is, rest_is) (append_assoc words (le_at w64 bytes index ∷ []) (words_in after (drop 8 (drop index bytes))))

-- a number at any index fits where all do
pub all_fit : (words : List ℕ) → All (λ (w : ℕ). w < 2 ^ 64) words → (k : ℕ) → get_or words k 0 < 2 ^ 64
all_fit words fit k = elim (cases_lt k (length words)) as (λ _. get_or words k 0 < 2 ^ 64) [
  | inl l ↦ All-get_or (λ (w : ℕ). w < 2 ^ 64) words k 0 l fit
  | inr g ↦ rw (get_or-eq_default words 0 g) (pow_pos 64)
]

-- a test that one of two facts meets
pub either_true : (a b : Bool) → (a ≡ true) ⊎ (b ≡ true) → (a || b) ≡ true
either_true true b h = refl
either_true false true h = refl
either_true false false (inl h) = h
either_true false false (inr h) = h

-- a filter of the image's words is the one that the image says, where the set bits are as many as it says
pub image_of_words : (image words : List ℕ) (p : Preamble) (bits_used : ℕ) → IsPreamble image p → early_fault image ≡ None → p.is_empty ≡ false → words ≡ words_in p.num_words (drop 32 image) → bits_used ≡ set.len (set_of words) → ((bit_count_at image ≡ uncounted) ⊎ (bit_count_at image ≡ bits_used)) → IsImage image (state_of words p.num_hashes p.seed)
image_of_words image words p bits_used fields checks full words_are count stored =
    let words_is : words ≡ words_in _ (drop 32 image) = words_are ∙ ap (λ (n : ℕ). words_in n (drop 32 image)) fields.num_words in
    let length_is : length words ≡ p.num_words = ap length words_are ∙ length-words_in p.num_words (drop 32 image) in
    let not_empty = sym fields.is_empty ∙ full in
    let counted = either_true (bit_count_at image == uncounted) (bit_count_at image == set.len (set_of (words_in _ (drop 32 image)))) (elim stored [
      | inl is ↦ inl (eq-eqb _ _ is)
      | inr is ↦ inr (eq-eqb _ _ (is ∙ count ∙ ap (λ (ws : List ℕ). set.len (set_of ws)) words_is))
    ]) in
    record {
      no_fault = rw (checks, not_empty, counted) refl;
      value = rw (not_empty, length_is, ← words_is, fields.num_words, fields.num_hashes, fields.seed) refl;
    }

-- the value of an image stands for the restored history
pub value_restores : (image : List ℕ) (new : FilterState) → new ≡ value_at image → Restores image new
value_restores image new is old was h stands =
    subst (λ (s : FilterState). StandsFor s (Restored h)) (was.value ∙ sym is) (record {
      num_words = stands.num_words;
      num_hashes = stands.num_hashes;
      seed = stands.seed;
      set = stands.set;
    })

-- so does what comes back
pub restores : (image : List ℕ) (new : FilterState) → IsImage image new → Restores image new
restores image new is = value_restores image new is.value
