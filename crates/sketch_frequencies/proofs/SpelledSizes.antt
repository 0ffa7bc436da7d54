-- The images of a sketch have one length.
use Rattle.std.proofs.Common.{◌≡◌, ℕ, ◌+◌, ◌-◌, ◌*◌, ◌<◌, ◌^◌, Bool, true, false, List, [], ◌∷◌, ◌++◌, length, refl, sym, ap, subst, ◌∙◌, inl, inr, arith, length-append}
use Rattle.std.specs.Int.{w64, to_le_bytes}
use Rattle.std.proofs.lemmas.Bool.{cases_lt, false≢true}
use Rattle.std.proofs.lemmas.List.{length-map}
use Rattle.std.proofs.lemmas.List.Sorted.{length_permutation}
use Rattle.sketch_base.specs.Errors.{ErrorValue, no_memory}
use Rattle.sketch_base.specs.declared.error.ErrorKind.{ErrorKind}
use Rattle.sketch_base.specs.declared.error.ErrorKind.TheVariants.{OutOfMemory}
use Rattle.sketch_base.specs.PowersOfTwo.{power_of}
use Rattle.sketch_frequencies.specs.Image.{IsSpelledFor, IsItemFault, IsImageWritingRefusal, HasImagesAbove, contents_of, encoded_weights, header, preamble}
use Rattle.sketch_frequencies.specs.Items.{Codec, IsWithin}
use Rattle.sketch_frequencies.specs.State.{FrequentState, IsState}
use Rattle.sketch_frequencies.specs.Writing.{IsImageSize, IsItemsSizeRefusal, TakeBytes}
use Rattle.sketch_frequencies.proofs.Cases.{by_cases}
use Rattle.sketch_frequencies.proofs.ImageSizes.{size_permuted, encoded_within}
use Rattle.sketch_frequencies.proofs.Spellings.{spelled_empty, spelled_full}

weights_long : {A : Type 0} (es : List (A × ℕ)) → length (encoded_weights es) ≡ 8 * length es
weights_long [] = refl
weights_long (e ∷ es) = omega (arith, length-append (to_le_bytes w64 e.1) (encoded_weights es), weights_long es)

whole_long : {A : Type 0} (lg_max lg_cur total error : ℕ) (es : List (A × ℕ)) (n : ℕ) (items : List ℕ) → length (preamble lg_max lg_cur n total error ++ encoded_weights es ++ items) ≡ 32 + 8 * length es + length items
whole_long lg_max lg_cur total error es n items =
    omega (arith, length-append (preamble lg_max lg_cur n total error) (encoded_weights es ++ items), length-append (encoded_weights es) items, weights_long es)

abbrev is_out_of_memory : ErrorKind → Bool
is_out_of_memory OutOfMemory = true
is_out_of_memory _ = false

module _ {T C : Type 0} (codec : Codec C) (content : T → C) where
  -- each image has the length
  pub spelled_size : (image : List ℕ) (s : FrequentState T) (n : ℕ) → IsImageSize codec content s n → IsSpelledFor codec content image s → length image ≡ n
  spelled_size image s n size spelled =
      by_cases (cases_lt 0 s.total)
      (λ some.
      let f : T × ℕ → C × ℕ = λ p. (content p.0, p.1) in
      let w = spelled.full some in
      let z = size.full some in
      let many : length (contents_of content s.counters) ≡ length s.counters = length-map s.counters f in
      let items = size_permuted codec (contents_of content s.counters) w.order z.1.0 w.items w.whole z.1.1 w.encoded in
      omega (arith, ap length w.bytes, whole_long w.lg_max w.lg_cur s.total s.error w.order (length w.order) w.items, many, length_permutation (contents_of content s.counters) w.order w.whole, items, z.1.2, z.2))
      (λ le.
      let none : s.total ≡ 0 = omega (arith, le) in
      omega (arith, ap length (spelled.empty none).bytes, size.empty none))

  -- there is an image of the length
  pub size_spelled : (eq : T → T → Bool) → ((x y : T) → eq x y ≡ codec.same (content x) (content y)) → (s : FrequentState T) (n : ℕ) → IsState eq s → s.total < 2 ^ 64 → IsImageSize codec content s n → (image : List ℕ) × IsSpelledFor codec content image s × (length image ≡ n)
  size_spelled eq alike s n state fits size =
      let max = power_of s.max_size state.max_size_power in
      let cur = power_of s.size state.size_power in
      by_cases (cases_lt 0 s.total)
      (λ some.
      let z = size.full some in
      let image : List ℕ = preamble max.0 cur.0 (length s.counters) s.total s.error ++ encoded_weights s.counters ++ z.1.0 in
      (image, spelled_full codec content eq alike image s max.0 cur.0 state fits some (sym max.1) (sym cur.1) (record { items = z.1.0; encoded = z.1.1; bytes = refl }), omega (arith, whole_long max.0 cur.0 s.total s.error s.counters (length s.counters) z.1.0, z.1.2, z.2)))
      (λ le.
      let none : s.total ≡ 0 = omega (arith, le) in
      (header 1 max.0 3 5, spelled_empty codec content eq alike (header 1 max.0 3 5) s max.0 state none (sym max.1) refl, omega (arith, size.empty none)))

  -- a sketch whose items take so many bytes has images above a number
  pub image_above : (eq : T → T → Bool) → ((x y : T) → eq x y ≡ codec.same (content x) (content y)) → (s : FrequentState T) (counters : List (T × ℕ)) (size : ℕ) → IsState eq s → 0 < s.total → s.total < 2 ^ 64 → counters ≡ s.counters →
      TakeBytes codec (contents_of content counters) size → 2 ^ 64 - 1 < 32 + 8 * length counters + size → HasImagesAbove codec content s (2 ^ 64 - 1)
  image_above eq alike s counters size state some fits same taken above =
      let n = 32 + 8 * length s.counters + size in
      let sized : IsImageSize codec content s n = record {
        empty = λ none. absurd (omega (arith, none, some));
        full = λ _. (size, subst (λ es. TakeBytes codec (contents_of content es) size) same taken, refl);
      } in
      let found = size_spelled eq alike s n state fits sized in
      record {
        some = (found.0, found.1);
        each = λ image spelled. omega (arith, spelled_size image s n sized spelled, above, ap length same);
      }

  -- no image exceeds `usize::MAX` if each item takes at most 2^33 bytes
  pub short_fits : (eq : T → T → Bool) (s : FrequentState T) (counters : List (T × ℕ)) (size : ℕ) → IsState eq s → counters ≡ s.counters → IsWithin codec (2 ^ 33) → TakeBytes codec (contents_of content counters) size → 32 + 8 * length counters + size < 2 ^ 64 - 1
  short_fits eq s counters size state same within taken =
      let f : T × ℕ → C × ℕ = λ p. (content p.0, p.1) in
      let bound = encoded_within codec (2 ^ 33) within (contents_of content counters) taken.0 taken.1 in
      omega (arith, bound, taken.2, length-map counters f, ap length same, state.few, state.within, state.greatest)

  -- an item's fault is another error than `NoMemory`
  fault_only : (counters : List (T × ℕ)) (e : ErrorValue) → IsItemFault codec content counters e → e ≡ no_memory → ⊥
  fault_only counters e fault memory = false≢true (ap (λ (x : ErrorValue). is_out_of_memory x.kind) (sym fault.0 ∙ memory))

  -- why the items' bytes are not counted is why the image's are not
  pub size_refused : (s : FrequentState T) (counters : List (T × ℕ)) (e : ErrorValue) → counters ≡ s.counters → IsItemsSizeRefusal codec content counters e → IsImageWritingRefusal codec content s.counters e
  size_refused s counters e same (inl above) = inl above.0
  size_refused s counters e same (inr fault) = inr (subst (λ es. IsItemFault codec content es e) same fault)

  pub memory_refused : (eq : T → T → Bool) → ((x y : T) → eq x y ≡ codec.same (content x) (content y)) → (s : FrequentState T) (counters : List (T × ℕ)) (e : ErrorValue) → IsState eq s → 0 < s.total → s.total < 2 ^ 64 → counters ≡ s.counters →
      IsItemsSizeRefusal codec content counters e → e ≡ no_memory → HasImagesAbove codec content s (2 ^ 64 - 1)
  memory_refused eq alike s counters e state some fits same (inl (is, (size, taken, above))) memory = image_above eq alike s counters size state some fits same taken (omega (arith, above))
  memory_refused eq alike s counters e state some fits same (inr fault) memory = absurd (fault_only counters e fault memory)

  pub short_refused : (eq : T → T → Bool) (s : FrequentState T) (counters : List (T × ℕ)) (e : ErrorValue) → IsState eq s → counters ≡ s.counters → IsWithin codec (2 ^ 33) → IsItemsSizeRefusal codec content counters e → IsItemFault codec content s.counters e
  short_refused eq s counters e state same within (inl (memory, (size, taken, above))) = absurd (omega (arith, above, short_fits eq s counters size state same within taken))
  short_refused eq s counters e state same within (inr fault) = subst (λ es. IsItemFault codec content es e) same fault
