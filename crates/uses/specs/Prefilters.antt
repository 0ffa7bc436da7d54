-- A join prefilter that is made of images of filters, and the rows that it keeps. A key is the bytes that its `Hash` feeds.
use Rattle.std.specs.Prelude.{◌≡◌, ℕ, ◌*◌, ◌⊎◌, Bool, true, List, ◌∷◌, ◌++◌, fold, filter, All, None}
use Rattle.std.specs.List.{list_any, AllZip}
use Rattle.std.specs.Str.{bytes_eq}
use Rattle.sketch_base.specs.Checks.{IsImageRefusal}
use Rattle.sketch_base.specs.Errors.{ErrorValue, invalid_argument, refusal_of}
use Rattle.sketch_base.specs.declared.fault.Fault.TheVariants.{Mismatch}
use Rattle.sketch_bloom.specs.Building.{Request, request_fault, words_for}
use Rattle.sketch_bloom.specs.Image.{IsImage, IsSpelled, value_at, early_fault_within, first_fault_within}
use Rattle.sketch_bloom.specs.State.{FilterState, IsCompatible, empty_state, contains_item, united}

-- the empty filter of the request
abbrev pub empty_of : Request → FilterState
empty_of r = empty_state (words_for r.num_bits) r.num_hashes r.seed

-- ---- the keys of the parts of one side

-- the bytes are the image of a filter that contains each of these keys
pub record CarriesKeys (image : List ℕ) (keys : List (List ℕ)) : Type 0 where
  pub carrier : FilterState
  pub spelled : IsSpelled image carrier
  pub contained : (key : List ℕ) → list_any (bytes_eq key) keys ≡ true → contains_item carrier key ≡ true

-- whether the key is in some part
abbrev pub joins : List (List (List ℕ)) → List ℕ → Bool
joins parts key = list_any (λ keys. list_any (bytes_eq key) keys) parts

-- the prefilter contains each key of the parts
abbrev pub PassesEach : List (List (List ℕ)) → FilterState → Type 0
PassesEach parts prefilter = (key : List ℕ) → joins parts key ≡ true → contains_item prefilter key ≡ true

-- for any keys that the images carry, the prefilter contains each of them
abbrev pub PassesAll : List (List ℕ) → FilterState → Type 0
PassesAll images prefilter =
    (parts : List (List (List ℕ))) → AllZip CarriesKeys images parts → PassesEach parts prefilter

-- ---- the images as one filter

-- the bytes are an image of a filter of this shape and seed
pub record IsPart (shape : FilterState) (image : List ℕ) : Type 0 where
  pub is_image : IsImage image (value_at image)
  pub compatible : IsCompatible shape (value_at image)

-- the filter, united with the filters of the images, one after another
abbrev pub all_united : FilterState → List (List ℕ) → FilterState
all_united s images = fold (λ t image. united t (value_at image)) s images

-- new is old, united with all images, each of which has its shape and seed
pub record UnitesAll (old : FilterState) (images : List (List ℕ)) (new : FilterState) : Type 0 where
  pub parts : All (IsPart old) images
  pub union : new ≡ all_united old images

-- the error of a rejected image: its first fault, more memory than the prefilter's, `NoMemory`, or `Mismatch` for another shape
-- or seed
abbrev pub IsPartRefusal : FilterState → List ℕ → ErrorValue → Type 0
IsPartRefusal shape image e =
    IsImageRefusal (early_fault_within (8 * shape.num_words) image) (first_fault_within (8 * shape.num_words) image) e
    ⊎ ((e ≡ invalid_argument Mismatch) × IsImage image (value_at image) × (¬ IsCompatible shape (value_at image)))

-- the images before one have the shape, and that one is rejected with e
pub record RefusesOne (shape : FilterState) (images : List (List ℕ)) (e : ErrorValue) : Type 0 where
  pub before : List (List ℕ)
  pub refused : List ℕ
  pub behind : List (List ℕ)
  pub whole : images ≡ before ++ refused ∷ behind
  pub parts : All (IsPart shape) before
  pub refusal : IsPartRefusal shape refused e

-- the error of a rejected prefilter: the fault of the request, `NoMemory`, or the error of the first rejected image
abbrev pub IsPrefilterRefusal : Request → List (List ℕ) → ErrorValue → Type 0
IsPrefilterRefusal builder images e =
    (e ≡ refusal_of (request_fault builder)) ⊎ ((request_fault builder ≡ None) × RefusesOne (empty_of builder) images e)

-- ---- the rows of the other side

-- the rows whose key is in some part: those of the join
abbrev pub joined : {R : Type 0} → (R → List ℕ) → List (List (List ℕ)) → List R → List R
joined key parts rows = filter (λ row. joins parts (key row)) rows

-- for any keys that the images carry, the rows of the join are the same, in the same order
abbrev pub PrunesNoneThatJoins : {R : Type 0} → (R → List ℕ) → List (List ℕ) → List R → List R → Type 0
PrunesNoneThatJoins key images old new =
    (parts : List (List (List ℕ))) → AllZip CarriesKeys images parts → joined key parts new ≡ joined key parts old
