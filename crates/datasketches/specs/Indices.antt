-- Combining sketches at their indices.
use Rattle.std.specs.Prelude.{◌≡◌, ℕ, Bool, List, Some, slice_set}
use Rattle.std.specs.List.{slice_get}
use Rattle.datasketches.specs.Actions.{Join}
use Rattle.datasketches.specs.Histories.{joined}
use Rattle.datasketches.specs.Joining.{Joins}
use Rattle.datasketches.specs.Stands.{DoesWith}
use Rattle.datasketches.specs.declared.reply.Reply.{Reply}
use Rattle.datasketches.specs.declared.sketch.Sketch.{Sketch}

-- the sketch at index `other` was combined into that at index `into`, or an error left all unchanged
pub record JoinsAt {T : Type 0} (eq : T → T → Bool) (join : Join) (old : List (Sketch T)) (into other : ℕ)
    (reply : Reply T) (new : List (Sketch T)) : Type 0 where
  pub sketch : Sketch T
  pub from : Sketch T
  pub after : Sketch T
  pub into_is : slice_get old into ≡ Some sketch
  pub from_is : slice_get old other ≡ Some from
  pub does : DoesWith eq (Joins eq join from) (joined join) from sketch reply after
  pub new_is : new ≡ slice_set old into after
