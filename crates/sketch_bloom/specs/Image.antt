-- The image of a filter: its fields by offset, its checks in order, its value, and its bytes.
use Rattle.std.specs.Prelude.{◌≡◌, ◌≢◌, ℕ, ◌+◌, ◌*◌, ◌<◌, ◌^◌, nat_le, nat_lt, ◌==◌, Bool, ◌&&◌, ◌||◌, not, Option, None, Some, List, [], ◌∷◌, ◌++◌, length, drop, All, bit_and, if◌then◌else◌}
use Rattle.std.specs.Int.{w16, w32, w64, to_le_bytes}
use Rattle.std.specs.FinSet as set
use Rattle.sketch_base.specs.Checks.{first_failing, or_else}
use Rattle.sketch_base.specs.Fields.{byte_at, le_at, words_in, bytes_of_words}
use Rattle.sketch_base.specs.declared.fault.Fault.{Fault}
use Rattle.sketch_base.specs.declared.fault.Fault.TheVariants.{InsufficientData, BadFamily, BadVersion, BadPreamble, BadNumHashes, BadNumWords, BadBitCount, TableTooLarge}
use Rattle.sketch_bloom.specs.BitSet.{Numbers, set_of}
use Rattle.sketch_bloom.specs.History.BloomHistory.{Restored}
use Rattle.sketch_bloom.specs.Stands.{Extends}
use Rattle.sketch_bloom.specs.State.{FilterState, IsFilterState}

-- ---- the fields

-- bit 2 of the flags alone marks the set as empty
abbrev pub says_empty : List ℕ → Bool
says_empty image = not (bit_and (byte_at image 3) 4 == 0)

abbrev pub num_hashes_at : List ℕ → ℕ
num_hashes_at image = le_at w16 image 4

abbrev pub seed_at : List ℕ → ℕ
seed_at image = le_at w64 image 8

-- a signed number that has to be positive, so its highest bit is clear
abbrev pub num_words_at : List ℕ → ℕ
num_words_at image = le_at w32 image 16

abbrev pub bit_count_at : List ℕ → ℕ
bit_count_at image = le_at w64 image 24

-- the bit count of a filter whose bits were not counted
abbrev pub uncounted : ℕ
uncounted = 0xFFFF_FFFF_FFFF_FFFF

-- the set of the words after the bit count
abbrev pub set_at : List ℕ → Numbers
set_at image = set_of (words_in (num_words_at image) (drop 32 image))

-- whether the bit count is missing or right
abbrev pub has_right_count : List ℕ → Bool
has_right_count image = (bit_count_at image == uncounted) || (bit_count_at image == set.len (set_at image))

-- how many bytes the image at the front takes: what follows is not part of it
abbrev pub prefix_bytes : List ℕ → ℕ
prefix_bytes image = if says_empty image then 24 else 32 + 8 * num_words_at image

-- ---- the checks: a test, and the fault if it fails

-- the checks before any allocation
abbrev pub early_checks : List ℕ → List (Bool × Fault)
early_checks image =
    (nat_le 4 (length image), InsufficientData)
    ∷ (byte_at image 2 == 21, BadFamily)
    ∷ (byte_at image 1 == 1, BadVersion)
    ∷ ((byte_at image 0 == 3) || (byte_at image 0 == 4), BadPreamble)
    ∷ (nat_le 6 (length image), InsufficientData)
    ∷ (nat_le 1 (num_hashes_at image) && nat_le (num_hashes_at image) 32767, BadNumHashes)
    ∷ (nat_le 24 (length image), InsufficientData)
    ∷ (nat_le 1 (num_words_at image) && nat_le (num_words_at image) 2147483647, BadNumWords)
    ∷ (says_empty image || nat_le (32 + 8 * num_words_at image) (length image), InsufficientData)
    ∷ []

abbrev pub late_checks : List ℕ → List (Bool × Fault)
late_checks image =
    (says_empty image || has_right_count image, BadBitCount)
    ∷ []

abbrev pub early_fault : List ℕ → Option Fault
early_fault image = first_failing (early_checks image)

-- the fault of the first check that fails
abbrev pub first_fault : List ℕ → Option Fault
first_fault image = or_else (early_fault image) (first_failing (late_checks image))

-- a reader's own limit, in bytes of words, is checked after the early checks
abbrev pub limit_fault : ℕ → List ℕ → Option Fault
limit_fault max_bytes image = if nat_lt max_bytes (8 * num_words_at image) then Some TableTooLarge else None

abbrev pub early_fault_within : ℕ → List ℕ → Option Fault
early_fault_within max_bytes image = or_else (early_fault image) (limit_fault max_bytes image)

abbrev pub first_fault_within : ℕ → List ℕ → Option Fault
first_fault_within max_bytes image =
    or_else (early_fault_within max_bytes image) (first_failing (late_checks image))

-- ---- the value of an image

abbrev pub value_at : List ℕ → FilterState
value_at image = record {
  num_words = num_words_at image;
  num_hashes = num_hashes_at image;
  seed = seed_at image;
  set = if says_empty image then set.empty else set_at image;
}

-- the bytes are an image of the filter; bytes that are not named here are free
pub record IsImage (image : List ℕ) (s : FilterState) : Type 0 where
  pub no_fault : first_fault image ≡ None
  pub value : s ≡ value_at image

-- ---- the bytes that are written

-- the longs of the preamble, the version, the family, the flags and the shape
abbrev pub preamble : (longs flags num_hashes seed num_words : ℕ) → List ℕ
preamble longs flags num_hashes seed num_words =
    longs ∷ 1 ∷ 21 ∷ flags ∷ [] ++ to_le_bytes w16 num_hashes ++ 0 ∷ 0 ∷ [] ++ to_le_bytes w64 seed
    ++ to_le_bytes w32 num_words ++ 0 ∷ 0 ∷ 0 ∷ 0 ∷ []

-- words of 64 bits that hold the filter's set
pub record AreWordsOf (s : FilterState) (words : List ℕ) : Type 0 where
  pub count : length words ≡ s.num_words
  pub fit : All (λ word. word < 2 ^ 64) words
  pub set : set_of words ≡ s.set

-- the bytes of a filter that is not empty
pub record IsWritten (image : List ℕ) (s : FilterState) : Type 0 where
  pub words : List ℕ
  pub are_words : AreWordsOf s words
  pub bytes :
      image ≡ preamble 4 0 s.num_hashes s.seed s.num_words ++ to_le_bytes w64 (set.len s.set) ++ bytes_of_words words

-- the bytes are the image that is written for the filter
pub record IsSpelled (image : List ℕ) (s : FilterState) : Type 0 where
  pub state : IsFilterState s
  pub seed : s.seed < 2 ^ 64
  pub empty : s.set ≡ set.empty → image ≡ preamble 3 4 s.num_hashes s.seed s.num_words
  pub full : s.set ≢ set.empty → IsWritten image s

-- the length of the image that is written for the filter
abbrev pub image_bytes : FilterState → ℕ
image_bytes s = if set.len s.set == 0 then 24 else 32 + 8 * s.num_words

-- ---- the promise of a reader

-- if a filter stands for a history and has this image, the filter that is read stands for the restored history
abbrev pub Restores : List ℕ → FilterState → Type 0
Restores image new = (old : FilterState) → IsImage image old → Extends old new Restored

-- if the bytes begin with the image that is written for a filter, that filter was read, and the image takes the bytes that were
-- read
abbrev pub ReadsFront : List ℕ → FilterState → ℕ → Type 0
ReadsFront bytes new used =
    (image rest : List ℕ) (old : FilterState) → IsSpelled image old → bytes ≡ image ++ rest →
    (new ≡ old) × (used ≡ length image)
