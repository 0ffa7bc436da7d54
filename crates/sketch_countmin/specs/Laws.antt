-- The laws of images, for a type with this minimum and this maximum.
use Rattle.std.specs.Prelude.{◌≡◌, ◌↔◌, ℕ, ◌<◌, ◌^◌, ℤ, List, ◌++◌, length, All, None}
use Rattle.sketch_countmin.specs.Image.{IsImage, IsSpelled, first_fault, prefix_bytes}
use Rattle.sketch_countmin.specs.State.{CountState, IsCountState}

-- the image that is written for a sketch is an image of it, under its own seed
abbrev pub SpelledIsImage : ℤ → ℕ → Type 0
SpelledIsImage least greatest =
    (image : List ℕ) (a : CountState) → IsSpelled least greatest image a → IsImage least greatest a.seed image a

-- so it is if any bytes follow, and as many are read
abbrev pub SpelledIsFront : ℤ → ℕ → Type 0
SpelledIsFront least greatest =
    (image rest : List ℕ) (a : CountState) → IsSpelled least greatest image a
    → IsImage least greatest a.seed (image ++ rest) a × (prefix_bytes (image ++ rest) ≡ length image)

-- no bytes are an image of two sketches under one seed
abbrev pub ImageIsOfOne : ℤ → ℕ → Type 0
ImageIsOfOne least greatest =
    (seed : ℕ) (image : List ℕ) (a b : CountState) → IsImage least greatest seed image a
    → IsImage least greatest seed image b → a ≡ b

-- bytes are an image of a sketch exactly if no check fails
abbrev pub ImageIsOfSome : ℤ → ℕ → Type 0
ImageIsOfSome least greatest =
    (seed : ℕ) (image : List ℕ)
    → ((a : CountState) × IsImage least greatest seed image a) ↔ (first_fault least greatest seed image ≡ None)

-- a sketch with an image is within the limits on shape, seed and total
abbrev pub ImageIsWithinLimits : ℤ → ℕ → Type 0
ImageIsWithinLimits least greatest =
    (seed : ℕ) (image : List ℕ) (a : CountState) → All (λ byte. byte < 2 ^ 8) image
    → IsImage least greatest seed image a → IsCountState greatest a
