-- Many updates in one call, each with a weight. Weights of 0 are left out.
use Rattle.std.specs.Prelude.{◌≡◌, ℕ, Bool, nat_lt, List, [], ◌∷◌, filter}
use Rattle.std.specs.List.{zip}
use Rattle.sketch_frequencies.specs.History.{FrequentHistory}
use Rattle.sketch_frequencies.specs.History.FrequentHistory.{Update}
use Rattle.sketch_frequencies.specs.Stands.{Extends, ExtendsBudget}
use Rattle.sketch_frequencies.specs.State.{FrequentState}
use Rattle.sketch_frequencies.specs.Steps.{StepsEqual}

-- each item with its weight, in order, without those of weight 0
abbrev pub weighed : {I : Type 0} → List I → List ℕ → List (I × ℕ)
weighed items weights = filter (λ pair. nat_lt 0 pair.1) (zip items weights)

module _ {T : Type 0} where
  -- the history with the weight of each pair added at its item, in order
  abbrev pub all_weighed : FrequentHistory T → List (T × ℕ) → FrequentHistory T
  all_weighed h [] = h
  all_weighed h (p ∷ ps) = all_weighed (Update h p.0 p.1) ps

module _ {T : Type 0} (eq : T → T → Bool) where
  -- a step for each pair, at an item equal to its own, in order
  abbrev pub StepsEqualWeighed : FrequentState T → List (T × ℕ) → FrequentState T → Type 0
  StepsEqualWeighed old [] new = new ≡ old
  StepsEqualWeighed old (p ∷ ps) new =
      (mid : FrequentState T) × StepsEqual eq old p.0 p.1 mid × StepsEqualWeighed mid ps new

  -- new is old after all weights were added, and represents each history that old represented, with the weights added
  pub record UpdatesWeighed (old : FrequentState T) (pairs : List (T × ℕ)) (new : FrequentState T) : Type 0 where
    pub steps : StepsEqualWeighed old pairs new
    pub stands : Extends eq old new (λ h. all_weighed h pairs)
    pub budget : ExtendsBudget eq old new (λ h. all_weighed h pairs)
