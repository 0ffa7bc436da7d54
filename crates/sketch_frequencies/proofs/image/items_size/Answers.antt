use Rattle.std.proofs.Common.{◌*◌, ◌∙◌, ap, length, refl, inl, arith}
use Rattle.counter_table.specs.Slots.{entries_of}
use Rattle.sketch_frequencies.specs.Image.{contents_of}
use Rattle.sketch_frequencies.specs.Writing.{TakeCapped}
use Rattle.sketch_frequencies.proofs.ImageSizes.{each_capped}
use Rattle.sketch_frequencies.proofs.image.items_size.Goals as goal
use Rattle.sketch_frequencies.proofs.image.items_size.Goals.{then-take_each, else-take_each+in_ok-size}

pub returns-then-size-clause-err : goal.returns-then-size-clause-err
returns-then-size-clause-err g c =
    let codec = g.T.FrequentItemValue.codec in
    let content = g.T.FrequentItemValue.content in
    let es = entries_of c.args.slots.now in
    let each = c.first_size-each.result in
    let h : TakeCapped codec (contents_of content es) c.if-take_each.size = elim c.if-take_each.branch [
      | then-take_each w ↦ each_capped codec content es each _ c.if-take_each.size (c.take_each.ensures w.if-take_each.true) (ap (λ n. each * n) c.requires) (w.size-is ∙ w.saturating_mul-size.ensures)
      | else-take_each+in_ok-size w ↦ rw w.size-is w.in_ok-size.ensures.ok
    ] in
    inl (c.from.ensures, (length h.0, (h.0, h.1, refl), omega (arith, h.2, c.if-size.true)))
