-- The first bytes of an image, as they are read. No public clause cites this module.
use Rattle.std.specs.Prelude.{◌≡◌, List, ℕ}
use Rattle.sketch_bloom.specs.Image.{says_empty, num_hashes_at, seed_at, num_words_at}
use Rattle.sketch_bloom.specs.declared.image.Preamble.{Preamble}

-- the preamble has the fields of this image
pub record IsPreamble (image : List ℕ) (p : Preamble) : Type 0 where
  pub is_empty : p.is_empty ≡ says_empty image
  pub num_hashes : p.num_hashes ≡ num_hashes_at image
  pub seed : p.seed ≡ seed_at image
  pub num_words : p.num_words ≡ num_words_at image
