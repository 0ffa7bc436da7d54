-- The length of an image that is to be written. No public clause cites this module.
use Rattle.std.specs.Prelude.{◌≡◌, ◌⊎◌, ℕ, ◌+◌, ◌-◌, ◌*◌, ◌^◌, ◌<◌, ◌≤◌, List, ◌++◌, length, min}
use Rattle.sketch_base.specs.Errors.{ErrorValue, no_memory}
use Rattle.sketch_frequencies.specs.Image.{AreEncoded, IsItemFault, encoded_weights, preamble, contents_of}
use Rattle.sketch_frequencies.specs.Items.{Codec}
use Rattle.sketch_frequencies.specs.State.{FrequentState}

-- the items have an encoding, and it takes n bytes
abbrev pub TakeBytes : {C : Type 0} → Codec C → List (C × ℕ) → ℕ → Type 0
TakeBytes codec counters n = (items : List ℕ) × AreEncoded codec counters items × (n ≡ length items)

-- the items have an encoding, and it takes n bytes, or `usize::MAX` if it takes more
abbrev pub TakeCapped : {C : Type 0} → Codec C → List (C × ℕ) → ℕ → Type 0
TakeCapped codec counters n = (items : List ℕ) × AreEncoded codec counters items × (n ≡ min (length items) (2 ^ 64 - 1))

-- the items have an encoding, and each takes n bytes
abbrev pub TakeEach : {C : Type 0} → Codec C → List (C × ℕ) → ℕ → Type 0
TakeEach codec counters n = (items : List ℕ) × AreEncoded codec counters items × (length items ≡ n * length counters)

-- the items of these counters take `usize::MAX` bytes or more, or one cannot be written for this fault
abbrev pub IsItemsSizeRefusal : {T C : Type 0} → Codec C → (T → C) → List (T × ℕ) → ErrorValue → Type 0
IsItemsSizeRefusal codec content counters e =
    ((e ≡ no_memory) × ((size : ℕ) × TakeBytes codec (contents_of content counters) size × (2 ^ 64 - 1 ≤ size)))
    ⊎ IsItemFault codec content counters e

-- the sketch has an image, and it takes n bytes
pub record IsImageSize {T C : Type 0} (codec : Codec C) (content : T → C) (s : FrequentState T) (n : ℕ) : Type 0 where
  pub empty : s.total ≡ 0 → n ≡ 8
  pub full : 0 < s.total →
      (size : ℕ) × TakeBytes codec (contents_of content s.counters) size × (n ≡ 32 + 8 * length s.counters + size)

-- the bytes are a preamble, and then the weights and the items of these counters
pub record IsWhole {T C : Type 0} (codec : Codec C) (content : T → C) (lg_max lg_cur total error : ℕ) (counters : List (T × ℕ)) (image : List ℕ) : Type 0 where
  pub items : List ℕ
  pub encoded : AreEncoded codec (contents_of content counters) items
  pub bytes :
      image ≡ preamble lg_max lg_cur (length counters) total error ++ encoded_weights counters ++ items
