use Rattle.std.proofs.Common.{◌≤◌, ◌∙◌, sym, arith}
use Rattle.sketch_frequencies.specs.Image.{items_bytes}
use Rattle.sketch_frequencies.specs.Items.{max_owned}
use Rattle.sketch_frequencies.proofs.ImageSizes.{items_within}
use Rattle.sketch_frequencies.proofs.OwnedBytes.{owned_within, nothing_owned}
use Rattle.sketch_frequencies.proofs.image.check_limit.Goals as goal
use Rattle.sketch_frequencies.proofs.image.check_limit.Goals.{then-owns_memory, else-owns_memory}

pub returns-then-saturating_add-max_bytes-clause-within : goal.returns-then-saturating_add-max_bytes-clause-within
returns-then-saturating_add-max_bytes-clause-within g c =
    let codec = g.T.FrequentItemValue.codec in
    let few = items_within codec g.met.T.FrequentItemValue.lawful c.args.active c.args.items.now in
    let owned : max_owned codec (items_bytes codec c.args.active c.args.items.now) ≤ c.if-owns_memory.most = elim c.if-owns_memory.branch [
      | then-owns_memory w ↦ owned_within codec.owns _ _ (omega (arith, few, w.most-is))
      | else-owns_memory w ↦ nothing_owned codec.owns _ _ (sym c.owns_memory.ensures ∙ w.if-owns_memory.false)
    ] in
    omega (arith, owned, c.bytes_of_table-table.ensures, c.saturating_add.ensures, c.if-saturating_add-max_bytes.true)
