-- How far an image was read. No public clause cites this module.
use Rattle.std.specs.Prelude.{◌≡◌, ◌⊎◌, ℕ, ◌-◌, ◌<◌, ◌≤◌, Bool, List, ◌++◌, length, take, sum, All, Result, Ok, Some}
use Rattle.std.specs.List.{IsDistinct}
use Rattle.std.specs.Map.{keys_of}
use Rattle.sketch_base.specs.Errors.{ErrorValue, invalid_data, no_memory}
use Rattle.sketch_base.specs.Fields.{byte_at}
use Rattle.sketch_base.specs.declared.fault.Fault.{Fault}
use Rattle.sketch_frequencies.specs.Image.{◌>>=◌, says_empty, active_at, total_at, error_at, weights_at, weight_of, items_in, items_at, fault_in, contents_of}
use Rattle.sketch_frequencies.specs.Items.{Codec}
use Rattle.counter_table.specs.Tables.{count_of, sum_of}
use Rattle.sketch_frequencies.specs.declared.image.Header.{Header}
use Rattle.sketch_frequencies.specs.declared.image.Numbers.{Numbers}

-- the header has the fields of this image
pub record IsHeader (image : List ℕ) (h : Header) : Type 0 where
  pub is_empty : h.is_empty ≡ says_empty image
  pub lg_max : h.lg_max ≡ byte_at image 3
  pub lg_cur : h.lg_cur ≡ byte_at image 4

-- the numbers are those of this image
pub record AreNumbers (image : List ℕ) (n : Numbers) : Type 0 where
  pub active : n.active ≡ active_at image
  pub total : n.total ≡ total_at image
  pub error : n.error ≡ error_at image

-- the items that were read before, and then those that are read next
abbrev pub with_front : {C : Type 0} → List C → Result (List C) Fault → Result (List C) Fault
with_front front read = read >>= λ others. Ok (front ++ others)

module _ {T C : Type 0} (codec : Codec C) (content : T → C) (eq : T → T → Bool) where
  -- the entries are those of the items with their weights
  pub record AreCounted (entries : List (T × ℕ)) (items : List C) (weights : List ℕ) : Type 0 where
    pub counts : (x : C) → count_of codec.same (contents_of content entries) x ≡ weight_of codec.same x items weights
    pub distinct : IsDistinct eq (keys_of entries)
    pub positive : All (λ e. 0 < e.1) entries
    pub few : length entries ≤ length weights
    pub sum_is : sum_of entries ≡ sum weights

  -- the entries are those of the image
  pub record AreCounters (image : List ℕ) (entries : List (T × ℕ)) : Type 0 where
    pub items : List C
    pub read : items_at codec image ≡ Ok items
    pub counted : AreCounted entries items (weights_at image)

  -- k items were read, and the rest is unread
  pub record AreCountersSoFar (image : List ℕ) (k : ℕ) (rest : List ℕ) (entries : List (T × ℕ)) : Type 0 where
    pub items : List C
    pub many : length items ≡ k
    pub read : with_front items (items_in codec (active_at image - k) rest) ≡ items_at codec image
    pub counted : AreCounted entries items (take k (weights_at image))

-- an allocation failed, or the items of the image cannot be read for this fault
abbrev pub IsItemsRefusal : {C : Type 0} → Codec C → List ℕ → ErrorValue → Type 0
IsItemsRefusal codec image e =
    (e ≡ no_memory) ⊎ ((e ≡ invalid_data e.fault) × (fault_in (items_at codec image) ≡ Some e.fault))
