-- Images that one run prints and another run loads.
use Rattle.std.specs.Prelude.{◌≡◌, ◌<◌, ℕ, List, [], ◌∷◌, ◌++◌, Some, All, codes}
use Rattle.std.specs.Global.{Global}
use Rattle.std.specs.declared.vec.Vec.{Vec}
use Rattle.datasketches.specs.Actions.{Load}
use Rattle.datasketches.specs.declared.image_kind.ImageKind.{ImageKind}
use Rattle.datasketches.specs.declared.reply.Reply.TheVariants.{Image}
use Rattle.datasketches_cli.specs.Asking.{Says}
use Rattle.datasketches_cli.specs.Grammar.{split_words, bytes_of_digits}
use Rattle.datasketches_cli.specs.Requests.{Act}
use Rattle.datasketches_cli.specs.Answers.{Replied}
use Rattle.datasketches_cli.specs.Transcript.{answer_line}

-- these are the digits that a run prints for these bytes
abbrev pub IsShownAs : List ℕ → Vec ℕ Global → Type 0
IsShownAs digits shown = answer_line (Replied (Image shown)) ≡ codes "image " ++ digits ++ codes "\n"

-- a line whose last word is the digits that a run printed loads the bytes for which it printed them
abbrev pub LoadsWhatWasShown : Type 0
LoadsWhatWasShown = (digits : List ℕ) (shown : Vec ℕ Global) → IsShownAs digits shown
    → (line : List ℕ) (front : List (List ℕ)) (name : List ℕ) (kind : ImageKind) (image : List ℕ) (max_bytes : ℕ)
    → split_words line ≡ front ++ digits ∷ [] → Says line (Act (Load name kind image max_bytes))
    → image ≡ shown.items

-- the digits that a run printed spell its bytes, so a line is never bad because of them
abbrev pub DigitsMakeWhatWasShown : Type 0
DigitsMakeWhatWasShown = (digits : List ℕ) (shown : Vec ℕ Global) → IsShownAs digits shown
    → All (λ byte. byte < 256) shown.items → bytes_of_digits digits ≡ Some shown.items
