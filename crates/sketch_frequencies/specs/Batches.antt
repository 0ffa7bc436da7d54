-- Many updates of weight 1 in one call, each as in a call of its own.
use Rattle.std.specs.Prelude.{◌≡◌, Bool, List, [], ◌∷◌}
use Rattle.sketch_frequencies.specs.History.{FrequentHistory}
use Rattle.sketch_frequencies.specs.History.FrequentHistory.{Update}
use Rattle.sketch_frequencies.specs.Stands.{Extends, ExtendsBudget}
use Rattle.sketch_frequencies.specs.State.{FrequentState}
use Rattle.sketch_frequencies.specs.Steps.{StepsEqual}

module _ {T : Type 0} where
  -- the history with a weight of 1 added for each item, in order
  abbrev pub all_updated : FrequentHistory T → List T → FrequentHistory T
  all_updated h [] = h
  all_updated h (x ∷ xs) = all_updated (Update h x 1) xs

module _ {T : Type 0} (eq : T → T → Bool) where
  -- a step of weight 1 for each item, in order
  abbrev pub StepsEqualAlong : FrequentState T → List T → FrequentState T → Type 0
  StepsEqualAlong old [] new = new ≡ old
  StepsEqualAlong old (x ∷ xs) new = (mid : FrequentState T) × StepsEqual eq old x 1 mid × StepsEqualAlong mid xs new

  -- new is old after all items were added, and represents each history that old represented, with the items added
  pub record UpdatesAll (old : FrequentState T) (items : List T) (new : FrequentState T) : Type 0 where
    pub steps : StepsEqualAlong old items new
    pub stands : Extends eq old new (λ h. all_updated h items)
    pub budget : ExtendsBudget eq old new (λ h. all_updated h items)
