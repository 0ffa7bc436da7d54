use Rattle.std.proofs.Common.{◌≡◌, ◌∙◌, refl}
use Rattle.std.specs.Int.{w128, to_le_bytes}
use Rattle.std.proofs.lemmas.List.{append-nil}
use Rattle.counter_table.proofs.slot_table.purges.sample_start.Goals as goal

pub returns-in-Plain-clause-index : goal.returns-in-Plain-clause-index
returns-in-Plain-clause-index c = rw c.in-Plain.is refl

pub returns-in-Keyed-clause-index : goal.returns-in-Keyed-clause-index
returns-in-Keyed-clause-index c =
    let number : c.copy_from_slice.new.self ≡ to_le_bytes w128 c.args.purges = c.copy_from_slice.ensures.after ∙ c.to_le_bytes.ensures in
    rw (c.in-Keyed.is, c.home.ensures, c.keyed_hash.ensures, append-nil c.copy_from_slice.new.self, number) refl
