-- The images of filters.
use Rattle.std.specs.Prelude.{◌≡◌, ◌⊎◌, ℕ, ◌*◌, ◌≤◌, List, length, Option}
use Rattle.std.specs.Io.KnownBytes.{Appends}
use Rattle.sketch_bloom.specs.Image.{IsImage, IsSpelled, first_fault_within, prefix_bytes}
use Rattle.sketch_bloom.specs.State.{FilterState}
use Rattle.sketches.specs.ImageFailures.{IsBad, IsUnread}
use Rattle.sketches.specs.declared.image.images.ImageFailure.{ImageFailure}

-- the bytes are an image of the filter and nothing more, and its words take at most `limit` bytes
pub record LoadsFilter (limit : ℕ) (image : List ℕ) (filter : FilterState) : Type 0 where
  pub image_of : IsImage image filter
  pub whole : prefix_bytes image ≡ length image
  pub within : 8 * filter.num_words ≤ limit

-- why the bytes are not an image of a filter
abbrev pub IsBadFilter : ℕ → List ℕ → ImageFailure → Type 0
IsBadFilter limit image failure = IsBad (first_fault_within limit image) (prefix_bytes image) (length image) failure

-- why the filter of an image was not read
abbrev pub IsNoFilter : ℕ → List ℕ → ImageFailure → Type 0
IsNoFilter limit image failure = IsUnread limit image failure ⊎ IsBadFilter limit image failure

-- the writer received an image of the filter, as `serialize` writes it
abbrev pub WritesFilter : FilterState → Option (List ℕ) → Option (List ℕ) → Type 0
WritesFilter filter held holds = (image : List ℕ) × IsSpelled image filter × Appends held holds image
