-- What of a text an output has received.
use Rattle.std.specs.Prelude.{◌≡◌, ℕ, List, ◌++◌, Option}
use Rattle.std.specs.Io.KnownBytes.{Appends}

-- the output received the front of a text: none of it, some or all
abbrev pub WritesFront : (held holds : Option (List ℕ)) → List ℕ → Type 0
WritesFront held holds text = (front left : List ℕ) × (text ≡ front ++ left) × Appends held holds front
