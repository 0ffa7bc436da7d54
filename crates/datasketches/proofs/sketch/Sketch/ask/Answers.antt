use Rattle.std.proofs.Common.{◌≡◌, to_z-of_z, arith}
use Rattle.datasketches.specs.declared.reply.Reply.TheVariants.{Bounds}
use Rattle.datasketches.proofs.Cells.{tells}
use Rattle.datasketches.proofs.sketch.Sketch.ask.Goals as goal

pub returns-in-CountI64-clause-tells : goal.returns-in-CountI64-clause-tells
returns-in-CountI64-clause-tells g c = λ x is.
    let found = c.bounds_item-counted.result in
    let least = c.bounds_item-counted.ensures.least in
    let shown : c.signed_bounds.result ≡ Bounds found.estimate found.estimate found.upper_bound = grind (arith, to_z-of_z) in
    rw (c.in-CountI64.is, shown, ← g.met.K.ItemKey.respects_hash c.args.item x is) (tells _ _ _ _ _ _ least least c.bounds_item-counted.ensures.upper)

pub returns-in-CountU64-clause-tells : goal.returns-in-CountU64-clause-tells
returns-in-CountU64-clause-tells g c = λ x is.
    let least = c.bounds_item-counted-in-CountU64.ensures.least in
    rw (c.in-CountU64.is, c.bounds-in-CountU64.ensures, ← g.met.K.ItemKey.respects_hash c.args.item x is) (tells _ _ _ _ _ _ least least c.bounds_item-counted-in-CountU64.ensures.upper)
