-- Many sketches that are merged in one call, one after another.
use Rattle.std.specs.Borrow.{Bor}
use Rattle.std.specs.Prelude.{◌≡◌, ℕ, Bool, List, [], ◌∷◌, map, sum_by}
use Rattle.std.specs.List.{AllZip}
use Rattle.sketch_frequencies.specs.History.{FrequentHistory}
use Rattle.sketch_frequencies.specs.History.FrequentHistory.{Merge}
use Rattle.sketch_frequencies.specs.Stands.{StandsFor, KeepsTailBudget}
use Rattle.sketch_frequencies.specs.State.{FrequentState}
use Rattle.sketch_frequencies.specs.Steps.{JoinsEqual}

module _ {T : Type 0} where
  -- the sketches that these references name
  abbrev pub states_of : List (Bor (FrequentState T)) → List (FrequentState T)
  states_of others = map (λ other. other.now) others

  -- the total weight of all of them
  abbrev pub total_of_all : List (FrequentState T) → ℕ
  total_of_all others = sum_by (λ other. other.total) others

  -- the history with the others merged into it, in order
  abbrev pub all_merged : FrequentHistory T → List (FrequentHistory T) → FrequentHistory T
  all_merged h [] = h
  all_merged h (g ∷ gs) = all_merged (Merge h g) gs

module _ {T : Type 0} (eq : T → T → Bool) where
  -- new is old after the others were merged into it, in order
  abbrev pub JoinsAll : FrequentState T → List (FrequentState T) → FrequentState T → Type 0
  JoinsAll old [] new = new ≡ old
  JoinsAll old (other ∷ others) new =
      (mid : FrequentState T) × JoinsEqual eq old other mid × JoinsAll mid others new

  -- if all sketches represent histories, new represents the merged history
  abbrev pub ExtendsAll : FrequentState T → List (FrequentState T) → FrequentState T → Type 0
  ExtendsAll old others new =
      (h : FrequentHistory T) (gs : List (FrequentHistory T)) → StandsFor eq old h → AllZip (StandsFor eq) others gs →
      StandsFor eq new (all_merged h gs)

  -- the sketch represents the history, and keeps its tail budget
  abbrev pub StandsInBudget : FrequentState T → FrequentHistory T → Type 0
  StandsInBudget s h = StandsFor eq s h × KeepsTailBudget eq s h

  -- if all of them also keep the tail budget, new keeps that of the merged history
  abbrev pub ExtendsAllBudgets : FrequentState T → List (FrequentState T) → FrequentState T → Type 0
  ExtendsAllBudgets old others new =
      (h : FrequentHistory T) (gs : List (FrequentHistory T)) → StandsInBudget old h →
      AllZip StandsInBudget others gs → KeepsTailBudget eq new (all_merged h gs)
