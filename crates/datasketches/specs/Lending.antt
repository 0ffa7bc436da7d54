-- Values that are borrowed under their names.
use Rattle.std.specs.Prelude.{◌≡◌, ℕ, List, Option, OnSome}
use Rattle.std.specs.Borrow.{LendsSo, Fml, RattleType, MutBor}
use Rattle.datasketches.specs.Names.{Named, Puts}
use Rattle.datasketches.specs.contracts.name_map.NameMap.{the_row}

-- the name now has this value, and the map hashes as before
pub record Writes {V : Type 0} (name : List ℕ) (value : V) (old new : Named V) : Type 0 where
  pub put : Puts name value old.entries new.entries
  pub hasher : new.hasher ≡ old.hasher

-- once the borrow r ends, the name has the last value written through r. If there is no borrow, the map is unchanged
abbrev pub LendsValue : (V : RattleType) → MutBor (Named V.Denot) → List ℕ → Option (MutBor V.Denot) → Fml
LendsValue V s name r = LendsSo (the_row V) V s r (λ new value. OnSome r (Writes name value s.now new)) (λ new. new ≡ s.now)
