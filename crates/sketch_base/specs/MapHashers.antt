-- The hashers of a map: std's fixed one, or SipHash-1-3 under random keys.
use Rattle.std.specs.Prelude.{ℕ, List}
use Rattle.std.specs.Hash.FoldHasher as folding
use Rattle.std.specs.Hash.DefaultHasher as sip
use Rattle.std.specs.Hash.BuildHasherDefault as fixed
use Rattle.std.specs.RandomState as random
use Rattle.sketch_base.specs.declared.map_state.MapHasher.{MapHasher}
use Rattle.sketch_base.specs.declared.map_state.MapHasher.TheVariants.{Fold, Sip}
use Rattle.sketch_base.specs.declared.map_state.MapState.{MapState}
use Rattle.sketch_base.specs.declared.map_state.MapState.TheVariants.{Fixed, Random}

-- the hasher before a key is written
abbrev pub initial_hasher : MapState → MapHasher
initial_hasher (Fixed state) = Fold (fixed.initial_hasher state)
initial_hasher (Random state) = Sip (random.initial_hasher state)

-- the hasher after `write(bytes)`
abbrev pub write : MapHasher → List ℕ → MapHasher
write (Fold hasher) bytes = Fold (folding.write hasher bytes)
write (Sip hasher) bytes = Sip (sip.write hasher bytes)

-- what `finish` returns
abbrev pub finish : MapHasher → ℕ
finish (Fold hasher) = folding.finish hasher
finish (Sip hasher) = sip.finish hasher
