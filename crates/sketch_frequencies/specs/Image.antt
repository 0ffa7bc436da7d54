-- The image of a frequent-items sketch: its fields by their offsets, its checks in their order, the sketch that it states,
-- and how it is written.
use Rattle.std.specs.Prelude.{◌≡◌, ◌⊎◌, ℕ, zero, suc, ◌+◌, ◌*◌, ◌%◌, ◌<◌, ◌^◌, nat_le, nat_lt, ◌==◌, Bool, not, ◌||◌, List, [], ◌∷◌, ◌++◌, length, drop, map, sum, sum_by, Any, IsPermutation, Option, Some, None, Result, Ok, Err, bit_and, if◌then◌else◌}
use Rattle.std.specs.Int.{w32, w64, to_le_bytes}
use Rattle.std.specs.List.{zip, flat_map}
use denote.RattleType.{RattleType}
use Rattle.sketch_base.specs.Checks.{first_failing, or_else}
use Rattle.sketch_base.specs.Errors.{ErrorValue, invalid_argument, no_memory}
use Rattle.sketch_base.specs.Fields.{byte_at, le_at, words_in}
use Rattle.sketch_base.specs.declared.fault.Fault.{Fault}
use Rattle.sketch_base.specs.declared.fault.Fault.TheVariants.{InsufficientData, BadFamily, BadVersion, LgCurTooSmall, LgMaxTooLarge, LgCurAboveMax, BadPreamble, EmptyFlagMismatch, TooManyActive, ZeroTotal, WeightsExceedTotal, ErrorExceedsTotal, TableTooLarge}
use Rattle.counter_table.specs.Bytes.{table_bytes}
use Rattle.sketch_frequencies.specs.History.{FrequentHistory}
use Rattle.sketch_frequencies.specs.History.FrequentHistory.{Restored}
use Rattle.sketch_frequencies.specs.Items.{Codec, max_owned}
use Rattle.sketch_frequencies.specs.Memory.{memory_bytes}
use Rattle.sketch_frequencies.specs.Stands.{Encloses, StandsFor, KeepsTailBudget}
use Rattle.sketch_frequencies.specs.State.{FrequentState, IsState, capacity}
use Rattle.counter_table.specs.Tables.{count_of}

-- ---- the fields

-- the low six bits of the first byte
abbrev pub preamble_longs_at : List ℕ → ℕ
preamble_longs_at image = byte_at image 0 % 64

-- a preamble of one word: the sketch is empty, and the image ends after the preamble
abbrev pub says_empty : List ℕ → Bool
says_empty image = preamble_longs_at image == 1

-- bit 0 or bit 2 of the flags
abbrev pub has_empty_flag : List ℕ → Bool
has_empty_flag image = not (bit_and (byte_at image 5) 5 == 0)

abbrev pub max_size_at : List ℕ → ℕ
max_size_at image = 2 ^ byte_at image 3

abbrev pub size_at : List ℕ → ℕ
size_at image = 2 ^ byte_at image 4

abbrev pub active_at : List ℕ → ℕ
active_at image = le_at w32 image 8

abbrev pub total_at : List ℕ → ℕ
total_at image = le_at w64 image 16

abbrev pub error_at : List ℕ → ℕ
error_at image = le_at w64 image 24

abbrev pub weights_at : List ℕ → List ℕ
weights_at image = words_in (active_at image) (drop 32 image)

infixl 10 ◌>>=◌
abbrev pub ◌>>=◌ : {A B : Type 0} → Result A Fault → (A → Result B Fault) → Result B Fault
(Ok x) >>= f = f x
(Err e) >>= f = Err e

-- the first n items, or the fault of the first that cannot be read
unfoldable pub items_in : {C : Type 0} → Codec C → ℕ → List ℕ → Result (List C) Fault
items_in codec zero bytes = Ok []
items_in codec (suc n) bytes = do
  first ← codec.reading bytes
  others ← items_in codec n (drop first.1 bytes)
  Ok (first.0 ∷ others)

-- the items of an image, which come after the weights
abbrev pub items_at : {C : Type 0} → Codec C → List ℕ → Result (List C) Fault
items_at codec image = items_in codec (active_at image) (drop (32 + 8 * active_at image) image)

-- how many bytes the item at the front takes, or 0 if it cannot be read
abbrev pub used_by : {C : Type 0} → Result (C × ℕ) Fault → ℕ
used_by (Ok first) = first.1
used_by (Err fault) = 0

-- how many bytes the first n items take, or those before the first that cannot be read
unfoldable pub items_bytes : {C : Type 0} → Codec C → ℕ → List ℕ → ℕ
items_bytes codec zero bytes = 0
items_bytes codec (suc n) bytes =
    used_by (codec.reading bytes) + items_bytes codec n (drop (used_by (codec.reading bytes)) bytes)

-- how many bytes the items of an image take: none if it states an empty sketch
abbrev pub bytes_of_items : {C : Type 0} → Codec C → List ℕ → ℕ
bytes_of_items codec image =
    if says_empty image then 0 else items_bytes codec (active_at image) (drop (32 + 8 * active_at image) image)

-- how many bytes the image at the front takes: what follows is not part of it
abbrev pub prefix_bytes : {C : Type 0} → Codec C → List ℕ → ℕ
prefix_bytes codec image =
    if says_empty image then 8
    else 32 + 8 * active_at image + items_bytes codec (active_at image) (drop (32 + 8 * active_at image) image)

-- the size of the table that the sketch has when it is read: an empty sketch has the minimum
abbrev pub restored_size : List ℕ → ℕ
restored_size image = if says_empty image then 8 else size_at image

-- ---- the checks: what has to hold, and the fault if it does not

abbrev pub header_checks : List ℕ → List (Bool × Fault)
header_checks image =
    (nat_le 8 (length image), InsufficientData)
    ∷ (byte_at image 2 == 10, BadFamily)
    ∷ (byte_at image 1 == 1, BadVersion)
    ∷ (nat_le 3 (byte_at image 4), LgCurTooSmall)
    ∷ (nat_le (byte_at image 3) 30, LgMaxTooLarge)
    ∷ (nat_le (byte_at image 4) (byte_at image 3), LgCurAboveMax)
    ∷ (says_empty image || (preamble_longs_at image == 4), BadPreamble)
    ∷ (if says_empty image then has_empty_flag image else not (has_empty_flag image), EmptyFlagMismatch)
    ∷ []

-- the other checks apply only if the image does not state an empty sketch
abbrev pub count_checks : List ℕ → List (Bool × Fault)
count_checks image =
    (nat_le 12 (length image), InsufficientData)
    ∷ (nat_le (active_at image) (capacity (size_at image)), TooManyActive)
    ∷ (nat_le 24 (length image), InsufficientData)
    ∷ (not (total_at image == 0), ZeroTotal)
    ∷ (nat_le 32 (length image), InsufficientData)
    ∷ (nat_le (32 + 8 * active_at image) (length image), InsufficientData)
    ∷ []

abbrev pub weight_checks : List ℕ → List (Bool × Fault)
weight_checks image =
    (nat_le (sum (weights_at image)) (total_at image), WeightsExceedTotal)
    ∷ (nat_le (sum (weights_at image) + error_at image) (total_at image), ErrorExceedsTotal)
    ∷ []

abbrev pub fault_in : {A : Type 0} → Result A Fault → Option Fault
fault_in (Ok x) = None
fault_in (Err fault) = Some fault

-- the fault of the first failing check, of those that come before any allocation
abbrev pub early_fault : List ℕ → Option Fault
early_fault image =
    or_else (first_failing (header_checks image))
    (if says_empty image then None else first_failing (count_checks image))

-- the fault of the first failing check of the later ones, with the reading of the items as the last
abbrev pub late_fault : {C : Type 0} → Codec C → List ℕ → Option Fault
late_fault codec image =
    if says_empty image then None else or_else (first_failing (weight_checks image)) (fault_in (items_at codec image))

-- the fault of the first failing check
abbrev pub first_fault : {C : Type 0} → Codec C → List ℕ → Option Fault
first_fault codec image = or_else (early_fault image) (late_fault codec image)

-- a reader's own limit, checked after the early checks: the maximum bytes of the table and of what its items can own
abbrev pub limit_fault : {C : Type 0} → RattleType → ℕ → Codec C → List ℕ → Option Fault
limit_fault item max_bytes codec image =
    let bytes = memory_bytes (table_bytes item (restored_size image)) (max_owned codec (bytes_of_items codec image)) in
    if nat_lt max_bytes bytes then Some TableTooLarge else None

abbrev pub early_fault_within : {C : Type 0} → RattleType → ℕ → Codec C → List ℕ → Option Fault
early_fault_within item max_bytes codec image =
    or_else (early_fault image) (limit_fault item max_bytes codec image)

abbrev pub first_fault_within : {C : Type 0} → RattleType → ℕ → Codec C → List ℕ → Option Fault
first_fault_within item max_bytes codec image =
    or_else (early_fault_within item max_bytes codec image) (late_fault codec image)

-- ---- the sketch that an image states

-- the number, or 0 if the image states an empty sketch
abbrev pub unless_empty : List ℕ → ℕ → ℕ
unless_empty image n = if says_empty image then 0 else n

-- the sum of the weights of the items that equal x
abbrev pub weight_of : {C : Type 0} → (C → C → Bool) → C → List C → List ℕ → ℕ
weight_of same x items weights = sum_by (λ p. if same x p.0 then p.1 else 0) (zip items weights)

-- the items, or none if one cannot be read
abbrev pub items_or_none : {C : Type 0} → Result (List C) Fault → List C
items_or_none (Ok items) = items
items_or_none (Err fault) = []

-- the weight of x in the image
abbrev pub weight_at : {C : Type 0} → Codec C → List ℕ → C → ℕ
weight_at codec image x =
    unless_empty image (weight_of codec.same x (items_or_none (items_at codec image)) (weights_at image))

-- The bytes are an image of a sketch of contents. A count is the sum of the weights of equal items, with no counter if that
-- is 0. Bytes that are not named here are arbitrary. The sample size, the key and the number of purges are not in the image.
pub record IsImage {C : Type 0} (codec : Codec C) (image : List ℕ) (s : FrequentState C) : Type 0 where
  pub no_fault : first_fault codec image ≡ None
  pub state : IsState codec.same s
  pub max_size : s.max_size ≡ max_size_at image
  pub size : s.size ≡ restored_size image
  pub total : s.total ≡ unless_empty image (total_at image)
  pub error : s.error ≡ unless_empty image (error_at image)
  pub counters : (x : C) → count_of codec.same s.counters x ≡ weight_at codec image x

-- ---- how an image is written

-- the bytes of the items, one after another
abbrev pub AreEncoded : {C : Type 0} → Codec C → List (C × ℕ) → List ℕ → Type 0
AreEncoded codec [] bytes = bytes ≡ []
AreEncoded codec (e ∷ es) bytes =
    (first rest : List ℕ) × (codec.encoding e.0 ≡ Ok first) × (bytes ≡ first ++ rest) × AreEncoded codec es rest

abbrev pub encoded_weights : {C : Type 0} → List (C × ℕ) → List ℕ
encoded_weights es = flat_map (λ e. to_le_bytes w64 e.1) es

-- the number of words in the preamble, the version, the family, both sizes and the flags
abbrev pub header : (longs lg_max lg_cur flags : ℕ) → List ℕ
header longs lg_max lg_cur flags = longs ∷ 1 ∷ 10 ∷ lg_max ∷ lg_cur ∷ flags ∷ 0 ∷ 0 ∷ []

-- the header, the number of counters, the total and the error
abbrev pub preamble : (lg_max lg_cur active total error : ℕ) → List ℕ
preamble lg_max lg_cur active total error =
    header 4 lg_max lg_cur 0 ++ to_le_bytes w32 active ++ to_le_bytes w32 0 ++ to_le_bytes w64 total
    ++ to_le_bytes w64 error

-- the bytes of an empty sketch
pub record IsWrittenEmpty {C : Type 0} (image : List ℕ) (s : FrequentState C) : Type 0 where
  pub lg_max : ℕ
  pub max_size : s.max_size ≡ 2 ^ lg_max
  pub bytes : image ≡ header 1 lg_max 3 5

-- the bytes of any other sketch: each counter once, in some order
pub record IsWritten {C : Type 0} (codec : Codec C) (image : List ℕ) (s : FrequentState C) : Type 0 where
  pub order : List (C × ℕ)
  pub whole : IsPermutation s.counters order
  pub lg_max : ℕ
  pub lg_cur : ℕ
  pub max_size : s.max_size ≡ 2 ^ lg_max
  pub size : s.size ≡ 2 ^ lg_cur
  pub items : List ℕ
  pub encoded : AreEncoded codec order items
  pub bytes : image ≡ preamble lg_max lg_cur (length order) s.total s.error ++ encoded_weights order ++ items

-- the bytes are those that a writer writes for a sketch of contents
pub record IsSpelled {C : Type 0} (codec : Codec C) (image : List ℕ) (s : FrequentState C) : Type 0 where
  pub state : IsState codec.same s
  pub total : s.total < 2 ^ 64
  pub empty : s.total ≡ 0 → IsWrittenEmpty image s
  pub full : 0 < s.total → IsWritten codec image s

-- ---- what writers and readers guarantee

-- the counters, with the contents of their items in place of the items
abbrev pub contents_of : {T C : Type 0} → (T → C) → List (T × ℕ) → List (C × ℕ)
contents_of content counters = map (λ e. (content e.0, e.1)) counters

-- the sketch, with the contents of its items in place of the items
abbrev pub state_of_contents : {T C : Type 0} → (T → C) → FrequentState T → FrequentState C
state_of_contents content s = record {
  counters = contents_of content s.counters;
  error = s.error;
  total = s.total;
  max_size = s.max_size;
  size = s.size;
  sample_size = s.sample_size;
  key = s.key;
  purges = s.purges;
}

module _ {T C : Type 0} (codec : Codec C) (content : T → C) where
  -- the bytes are an image of the sketch
  abbrev pub IsImageOf : List ℕ → FrequentState T → Type 0
  IsImageOf image s = IsImage codec image (state_of_contents content s)

  -- the bytes are those that a writer writes for the sketch
  abbrev pub IsSpelledFor : List ℕ → FrequentState T → Type 0
  IsSpelledFor image s = IsSpelled codec image (state_of_contents content s)

  -- an item of these counters cannot be written for this fault
  abbrev pub IsItemFault : List (T × ℕ) → ErrorValue → Type 0
  IsItemFault counters e =
      (e ≡ invalid_argument e.fault) × Any (λ counter. codec.encoding (content counter.0) ≡ Err e.fault) counters

  -- an allocation failed, or an item of these counters cannot be written for this fault
  abbrev pub IsImageWritingRefusal : List (T × ℕ) → ErrorValue → Type 0
  IsImageWritingRefusal counters e = (e ≡ no_memory) ⊎ IsItemFault counters e

  -- the sketch has an image, and each is longer than n bytes
  pub record HasImagesAbove (s : FrequentState T) (n : ℕ) : Type 0 where
    pub some : (image : List ℕ) × IsSpelledFor image s
    pub each : (image : List ℕ) → IsSpelledFor image s → n < length image

  -- if the bytes begin with an image that a sketch writes, it is an image of the sketch that was read, and takes the bytes that
  -- were read
  abbrev pub ReadsFront : List ℕ → FrequentState T → ℕ → Type 0
  ReadsFront bytes new used =
      (image rest : List ℕ) (old : FrequentState T) → IsSpelledFor image old → bytes ≡ image ++ rest →
      IsImageOf image new × (used ≡ length image)

  -- if a sketch encloses a history and has this image, the sketch that was read represents the restored history
  abbrev pub Restores : (T → T → Bool) → List ℕ → FrequentState T → Type 0
  Restores eq image new =
      (old : FrequentState T) → IsImageOf image old →
      (h : FrequentHistory T) → Encloses eq old h → StandsFor eq new (Restored h)

  -- if it keeps the tail budget, so does the sketch that was read
  abbrev pub RestoresBudget : (T → T → Bool) → List ℕ → FrequentState T → Type 0
  RestoresBudget eq image new =
      (old : FrequentState T) → IsImageOf image old →
      (h : FrequentHistory T) → Encloses eq old h → KeepsTailBudget eq old h → KeepsTailBudget eq new (Restored h)
