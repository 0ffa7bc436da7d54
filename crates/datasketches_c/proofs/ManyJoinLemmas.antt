-- The total of many Count-Min sketches that are merged into one.
use Rattle.std.proofs.Common.{◌≡◌, ℕ, ◌+◌, List, [], ◌∷◌, Bor, map, refl}
use Rattle.std.specs.Prelude.{sum_by}
use Rattle.std.specs.List.{fold}
use Rattle.sketch_countmin.specs.State.{CountState}
use Rattle.datasketches_c.specs.ManyJoins.{total_of_each}

fold_names : {A S : Type 0} (f : A → S → A) (a : A) (others : List (Bor S)) → fold f a (map (λ other. other.now) others) ≡ fold (λ b other. f b other.now) a others
fold_names f a [] = refl
fold_names f a (other ∷ others) = fold_names f (f a other.now) others

-- the total of sketches behind references
pub total_of_names : (others : List (Bor CountState)) → total_of_each (map (λ other. other.now) others) ≡ sum_by (λ other. other.now.total) others
total_of_names others = fold_names (λ (a : ℕ) (s : CountState). a + s.total) 0 others
