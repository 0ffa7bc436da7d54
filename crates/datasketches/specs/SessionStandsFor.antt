-- Sessions that stand for an assignment of histories to their names.
use Rattle.std.specs.Prelude.{ℕ, Bool, List, Option, Some, None}
use Rattle.sketch_frequencies.specs.Items.{Codec}
use Rattle.datasketches.specs.Histories.{Assignment}
use Rattle.datasketches.specs.Images.{IsSavedOf}
use Rattle.datasketches.specs.Names.{at_name}
use Rattle.datasketches.specs.Stands.{StandsFor}
use Rattle.datasketches.specs.State.{SessionState}

-- both exist and are related, or neither exists
abbrev pub Paired : {X Y : Type 0} → (X → Y → Type 0) → Option X → Option Y → Type 0
Paired R None None = Unit {0}
Paired R (Some x) (Some y) = R x y
Paired R _ _ = ⊥

-- the session has the assignment's names and kinds. Each sketch stands for its history, and each image is one of a sketch that
-- stands for its history
pub record SessionStandsFor {T C : Type 0} (eq : T → T → Bool) (codec : Codec C) (content : T → C) (s : SessionState T)
    (a : Assignment T) : Type 0 where
  pub sketches : (name : List ℕ) → Paired (StandsFor eq) (at_name name s.sketches) (a.sketches name)
  pub images : (name : List ℕ) → Paired (IsSavedOf eq codec content) (at_name name s.images) (a.images name)
