-- The first bytes of an image, as they are read. No public clause cites this module.
use Rattle.std.specs.Prelude.{◌≡◌, List, ℕ}
use Rattle.sketch_countmin.specs.Image.{says_empty, hashes_at, buckets_at}
use Rattle.sketch_countmin.specs.declared.image.Preamble.{Preamble}

-- the preamble has the fields of this image
pub record IsPreamble (image : List ℕ) (p : Preamble) : Type 0 where
  pub is_empty : p.is_empty ≡ says_empty image
  pub num_hashes : p.num_hashes ≡ hashes_at image
  pub num_buckets : p.num_buckets ≡ buckets_at image
