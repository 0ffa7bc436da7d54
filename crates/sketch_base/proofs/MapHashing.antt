-- Many writes to a hasher.
use Rattle.std.proofs.Common.{◌≡◌, ℕ, List, [], ◌∷◌, refl}
use Rattle.std.specs.List.{fold}
use Rattle.std.specs.Hash.FoldHasher as folding
use Rattle.std.specs.Hash.DefaultHasher as sip
use Rattle.std.specs.declared.hash.FoldHasher.{FoldHasher}
use Rattle.std.specs.declared.hash.DefaultHasher.{DefaultHasher}
use Rattle.sketch_base.specs.MapHashers.{write}
use Rattle.sketch_base.specs.declared.map_state.MapHasher.TheVariants.{Fold, Sip}

-- each write is one of the hasher inside
pub fold-fold : (hasher : FoldHasher) (writes : List (List ℕ)) → fold write (Fold hasher) writes ≡ Fold (fold folding.write hasher writes)
fold-fold hasher [] = refl
fold-fold hasher (bytes ∷ writes) = fold-fold (folding.write hasher bytes) writes

pub fold-sip : (hasher : DefaultHasher) (writes : List (List ℕ)) → fold write (Sip hasher) writes ≡ Sip (fold sip.write hasher writes)
fold-sip hasher [] = refl
fold-sip hasher (bytes ∷ writes) = fold-sip (sip.write hasher bytes) writes
