-- How lines are taken from the bytes that were read, and more is read.
use Rattle.std.specs.Prelude.{◌≡◌, ◌≢◌, ◌⊎◌, ℕ, Bool, true, false, List, [], ◌∷◌, ◌++◌, Option, Some, IfSome, All}
use Rattle.std.specs.Io.BufRead.{take_through, drop_through}
use Rattle.std.specs.Io.KnownBytes.{Consumes, IsAtEnd}
use Rattle.datasketches_cli.specs.Counts.{HasGrown}

-- no byte is a line feed
abbrev pub HasNoFeed : List ℕ → Type 0
HasNoFeed bytes = All (λ byte. byte ≢ 10) bytes

-- bytes moved from the input to the end of what is held: through the first line feed, or all of them if there is none
abbrev pub TakesFront : Bool → List ℕ → List ℕ → List ℕ → List ℕ → Type 0
TakesFront true was is held holds =
    (front : List ℕ) × HasNoFeed front × (was ≡ front ++ 10 ∷ is) × (holds ≡ held ++ (front ++ 10 ∷ []))
TakesFront false was is held holds = HasNoFeed was × (is ≡ []) × (holds ≡ held ++ was)

-- a reader returned these bytes. If there may be more, there are some, or its count of failures grew. At the end there are none
abbrev pub Fills : Bool → Option (List ℕ) → List ℕ → Option (List ℕ) → ℕ → ℕ → Type 0
Fills more was bytes is before now =
    Consumes was is bytes × (more ≡ false → (bytes ≡ []) × IsAtEnd is)
    × (more ≡ true → (bytes ≢ []) ⊎ HasGrown before now)

-- a line was taken with its line feed, or the input is at its end
abbrev pub TakesLine : Bool → Option (List ℕ) → Option (List ℕ) → List ℕ → Type 0
TakesLine true was is line =
    IfSome was (λ bytes. (bytes ≢ []) × (line ≡ take_through 10 bytes) × (is ≡ Some (drop_through 10 bytes)))
TakesLine false was is line = IfSome was (λ bytes. bytes ≡ [])
