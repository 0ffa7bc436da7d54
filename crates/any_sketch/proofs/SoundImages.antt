-- Images that were read have no fault before memory.
use Rattle.std.proofs.Common.{◌≡◌, ℕ, List, Option, Some, None}
use Rattle.sketch_base.specs.Checks.{or_else}
use Rattle.sketch_base.specs.declared.fault.Fault.{Fault}
use Rattle.sketch_frequencies.specs.Image as frequent
use Rattle.sketch_frequencies.specs.Items.{Codec}
use Rattle.sketch_frequencies.specs.State.{FrequentState}
use denote.RattleType.{RattleType}

-- where neither an image nor the limit has a fault, none comes before memory
none_before : (early limit late : Option Fault) → or_else early late ≡ None → limit ≡ None → or_else early limit ≡ None
none_before None limit late e h = h
none_before (Some fault) limit late e h = cc

-- an image of frequent items that was read within a limit
pub sound_items : {T C : Type 0} (item : RattleType) (codec : Codec C) (content : T → C) (max_bytes : ℕ) (image : List ℕ) (s : FrequentState T)
    → frequent.IsImageOf codec content image s → frequent.limit_fault item max_bytes codec image ≡ None
    → frequent.early_fault_within item max_bytes codec image ≡ None
sound_items item codec content max_bytes image s is =
    none_before (frequent.early_fault image) (frequent.limit_fault item max_bytes codec image) _ is.no_fault
