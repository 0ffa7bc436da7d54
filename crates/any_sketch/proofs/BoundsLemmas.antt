-- Bounds of the items of keys, from the library's.
use Rattle.std.proofs.Common.{◌≡◌, Bool, List, [], ◌∷◌, map, refl, sym, subst}
use Rattle.std.specs.List.{AllZip}
use Rattle.std.specs.Prelude.{IsTrue}
use Rattle.sketch_frequencies.specs.Bounds.{bounds_by_key, BoundWeight}
use Rattle.sketch_frequencies.specs.State.{FrequentState}
use Rattle.sketch_frequencies.specs.declared.item_bounds.ItemBounds.{ItemBounds}
use Rattle.any_sketch.specs.FrequentBatches.{AreBoundsOfAll}

module _ {T : Type 0} (eq : T → T → Bool) (s : FrequentState T) where
  -- the bounds hold for each item that a key names
  abbrev Holds : (T → Bool) → ItemBounds → Type 0
  Holds key bounds = (item : T) → IsTrue (key item) → BoundWeight eq s item bounds

  each_bound : (keys : List (T → Bool)) → AllZip Holds keys (map (λ (key : T → Bool). bounds_by_key key s) keys)
      → AreBoundsOfAll eq s keys (map (λ (key : T → Bool). bounds_by_key key s) keys)
  each_bound [] hold = tt
  each_bound (key ∷ keys) hold = (record { lower = refl; estimate = refl; upper = refl; holds = hold.0 }, each_bound keys hold.1)

  pub bounds_of_keys : (keys : List (T → Bool)) (bounds : List ItemBounds) → bounds ≡ map (λ (key : T → Bool). bounds_by_key key s) keys
      → AllZip Holds keys bounds → AreBoundsOfAll eq s keys bounds
  bounds_of_keys keys bounds are hold = subst (AreBoundsOfAll eq s keys) (sym are) (each_bound keys (subst (AllZip Holds keys) are hold))
