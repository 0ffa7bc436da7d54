-- Weights of merged histories.
use Rattle.std.proofs.Common.{◌≡◌, ℕ, ◌+◌, Bool, List, [], ◌∷◌, sum_by, refl, arith}
use Rattle.std.proofs.lemmas.List.Sums.{sum_by-cons}
use Rattle.std.specs.List.{fold}
use Rattle.sketch_frequencies.specs.History.{FrequentHistory, true_weight, total_weight, weight_outside}
use Rattle.sketch_frequencies.specs.History.FrequentHistory.{Merge}
use Rattle.heavy_windows.specs.Fresh.{fresh_history}
use Rattle.heavy_windows.specs.Laws.{ItemsWeighAsInWindows, TotalIsOfWindows, OthersWeighAsInWindows}

module _ {T : Type 0} where
  -- whatever adds up where histories are merged
  merged_sum : (f : FrequentHistory T → ℕ) → ((g h : FrequentHistory T) → f (Merge g h) ≡ f g + f h)
      → (h : FrequentHistory T) (hs : List (FrequentHistory T)) → f (fold Merge h hs) ≡ f h + sum_by f hs
  merged_sum f adds h [] = omega arith
  merged_sum f adds h (g ∷ hs) = omega (arith, merged_sum f adds (Merge h g) hs, adds h g, sum_by-cons f g hs)

  from_nothing : (f : FrequentHistory T → ℕ) → ((g h : FrequentHistory T) → f (Merge g h) ≡ f g + f h)
      → (h : FrequentHistory T) → f h ≡ 0 → (hs : List (FrequentHistory T)) → f (fold Merge h hs) ≡ sum_by f hs
  from_nothing f adds h none hs = omega (arith, merged_sum f adds h hs, none)

  pub items_weigh : (eq : T → T → Bool) → ItemsWeighAsInWindows eq
  items_weigh eq max_map_size hs x =
      from_nothing (λ h. true_weight eq h x) (λ g h. refl) (fresh_history max_map_size) refl hs

  pub total_is : (eq : T → T → Bool) → TotalIsOfWindows eq
  total_is eq max_map_size hs = from_nothing (λ h. total_weight h) (λ g h. refl) (fresh_history max_map_size) refl hs

  pub others_weigh : (eq : T → T → Bool) → OthersWeighAsInWindows eq
  others_weigh eq max_map_size hs set =
      from_nothing (λ h. weight_outside eq set h) (λ g h. refl) (fresh_history max_map_size) refl hs
