-- A session as its named sketches and images, and its keys.
use Rattle.std.specs.Prelude.{◌≡◌, ℕ, List, []}
use Rattle.counter_table.specs.declared.table_key.TableKey.{TableKey}
use Rattle.sketch_base.specs.declared.map_state.MapState.{MapState}
use Rattle.datasketches.specs.Names.{AreSame}
use Rattle.datasketches.specs.Images.{Image}
use Rattle.datasketches.specs.declared.sketch.Sketch.{Sketch}

-- the key of the tables of frequent items, and the hash builders of the sketches' and of the images' names
pub record SessionKeys : Type 0 where
  pub table : TableKey
  pub sketch_names : MapState
  pub image_names : MapState

-- the keys of a session whose maps of names have one hash builder
abbrev pub keys_with : TableKey → MapState → SessionKeys
keys_with table hasher = record { table = table; sketch_names = hasher; image_names = hasher }

-- the sketches and the images with their names, each in some order, and the keys
pub record SessionState (T : Type 0) : Type 0 where
  pub sketches : List (List ℕ × Sketch T)
  pub images : List (List ℕ × Image)
  pub keys : SessionKeys

-- the session without names that has these keys
abbrev pub nothing_stored : {T : Type 0} → SessionKeys → SessionState T
nothing_stored keys = record { sketches = []; images = []; keys = keys }

-- each name keeps its image, and the session its keys
pub record KeepsImages {T : Type 0} (old new : SessionState T) : Type 0 where
  pub images : AreSame old.images new.images
  pub keys : new.keys ≡ old.keys

-- each name keeps its sketch and its image, and the session its keys
pub record IsUnchanged {T : Type 0} (old new : SessionState T) : Type 0 where
  pub sketches : AreSame old.sketches new.sketches
  pub images : AreSame old.images new.images
  pub keys : new.keys ≡ old.keys
