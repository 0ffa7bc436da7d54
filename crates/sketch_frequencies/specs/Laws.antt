-- The laws of images, over the states that the calls leave.
use Rattle.std.specs.Prelude.{◌≡◌, ◌↔◌, ℕ, ◌+◌, ◌≤◌, List, ◌++◌, length, None}
use Rattle.sketch_frequencies.specs.Image.{IsImage, IsSpelled, first_fault, prefix_bytes}
use Rattle.sketch_frequencies.specs.Items.{Codec}
use Rattle.sketch_frequencies.specs.State.{FrequentState}
use Rattle.sketch_frequencies.specs.Steps.{HoldsSame}
use Rattle.counter_table.specs.Tables.{sum_of}

module _ {C : Type 0} (codec : Codec C) where
  -- the bytes that are written for a sketch are an image of it
  abbrev pub SpelledIsImage : Type 0
  SpelledIsImage = (image : List ℕ) (s : FrequentState C) → IsSpelled codec image s → IsImage codec image s

  -- so they are if any bytes follow, and as many are read
  abbrev pub SpelledIsFront : Type 0
  SpelledIsFront = (image rest : List ℕ) (s : FrequentState C) → IsSpelled codec image s →
      IsImage codec (image ++ rest) s × (prefix_bytes codec (image ++ rest) ≡ length image)

  -- no bytes are an image of two sketches, up to which of equal items they hold and up to their sample sizes,
  -- keys and purges
  abbrev pub ImageIsOfOne : Type 0
  ImageIsOfOne =
      (image : List ℕ) (s t : FrequentState C) → IsImage codec image s → IsImage codec image t →
      HoldsSame codec.same s t

  -- bytes are an image of a sketch exactly if no check fails
  abbrev pub ImageIsOfSome : Type 0
  ImageIsOfSome =
      (image : List ℕ) → ((s : FrequentState C) × IsImage codec image s) ↔ (first_fault codec image ≡ None)

  -- the counts and the error that an image states are together at most the total, also in an untrusted image
  abbrev pub ImageIsWithinTotal : Type 0
  ImageIsWithinTotal =
      (image : List ℕ) (s : FrequentState C) → IsImage codec image s → sum_of s.counters + s.error ≤ s.total
