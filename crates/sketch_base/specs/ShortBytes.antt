-- The bytes of an item, kept while there are fewer than a block of 16.
use Rattle.std.specs.Prelude.{◌≡◌, ℕ, ◌+◌, ◌<◌, nat_lt, if◌then◌else◌, List, ◌++◌, length}
use Rattle.sketch_base.specs.Murmur3.{padded}

-- the kept bytes after one more piece: appended if fewer than 16 result, else padded to 16, after which nothing fits
unfoldable pub keep : List ℕ → List ℕ → List ℕ
keep kept piece = if nat_lt (length kept + length piece) 16 then kept ++ piece else padded kept

-- the kept bytes are all that was fed, if either list has fewer than 16
pub record Keeps (fed kept : List ℕ) : Type 0 where
  pub all : length kept < 16 → kept ≡ fed
  pub few : length fed < 16 → kept ≡ fed
