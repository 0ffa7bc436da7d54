-- Windows as a list, oldest first: of states or of histories.
use Rattle.std.specs.Prelude.{ℕ, ◌-◌, nat_lt, List, [], ◌∷◌, ◌++◌, length, take, drop, if◌then◌else◌}

module _ {X : Type 0} where
  -- the newest, or a fresh one if there is none
  abbrev pub newest : X → List X → X
  newest fresh [] = fresh
  newest fresh (x ∷ xs) = newest x xs

  -- the newest is replaced, or the first one added if there is none
  abbrev pub with_newest : List X → X → List X
  with_newest xs y = take (length xs - 1) xs ++ y ∷ []

  -- the oldest is dropped if there are more than the limit
  abbrev pub latest : ℕ → List X → List X
  latest limit xs = if nat_lt limit (length xs) then drop 1 xs else xs

  -- a fresh one is opened, and the oldest dropped if there are then more than the limit; an empty list stays empty
  abbrev pub turned : ℕ → X → List X → List X
  turned limit fresh [] = []
  turned limit fresh (x ∷ xs) = latest limit (x ∷ xs ++ fresh ∷ [])
