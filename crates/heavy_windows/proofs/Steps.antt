-- What an update does to windows.
use Rattle.std.proofs.Common.{◌≡◌, ℕ, Bool, List, [], ◌∷◌, ◌++◌, sym, subst}
use Rattle.sketch_frequencies.specs.State.{FrequentState}
use Rattle.sketch_frequencies.specs.Steps.{Steps}
use Rattle.heavy_windows.specs.Steps.{AddsToNewest}
use Rattle.heavy_windows.proofs.Newest.{newest_last, with_newest_last}

module _ {T : Type 0} (eq : T → T → Bool) where
  pub adds_to_newest : (fresh : FrequentState T) (older windows : List (FrequentState T)) (s s' : FrequentState T) (item : T)
      (weight : ℕ) → older ++ s ∷ [] ≡ windows → Steps eq s item weight s'
      → AddsToNewest eq fresh windows item weight (older ++ s' ∷ [])
  adds_to_newest fresh older windows s s' item weight e step =
      subst (λ ws. AddsToNewest eq fresh ws item weight (older ++ s' ∷ [])) e
      (record {
        window = s';
        step = subst (λ n. Steps eq n item weight s') (sym (newest_last fresh older s)) step;
        windows = sym (with_newest_last older s s');
      })

  -- a first window
  pub adds_first : (fresh : FrequentState T) (before after : List (FrequentState T)) (s' : FrequentState T) (item : T)
      (weight : ℕ) → before ≡ [] → after ≡ s' ∷ [] → Steps eq fresh item weight s'
      → AddsToNewest eq fresh before item weight after
  adds_first fresh before after s' item weight b a step =
      subst (λ ws. AddsToNewest eq fresh ws item weight after) (sym b) (record { window = s'; step = step; windows = a })
