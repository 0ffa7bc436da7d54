use Rattle.std.proofs.Common.{arith, ap, sym}
use Rattle.sketches.proofs.TakenKeys.{names_written, weight_added, weight_left}
use Rattle.sketches.proofs.weight.key_sums.add_weight.Goals as goal

pub returns-in-Some-clause-names : goal.returns-in-Some-clause-names
returns-in-Some-clause-names c =
    let writes = c.get_mut.follows.holds c.saturating_add.result in
    names_written c.args.sums.now.entries (c.get_mut.follows.lender c.saturating_add.result).entries c.args.item.now c.saturating_add.result writes.0

pub returns-in-Some-clause-added : goal.returns-in-Some-clause-added
returns-in-Some-clause-added c =
    let writes = c.get_mut.follows.holds c.saturating_add.result in
    weight_added c.args.sums.now.entries (c.get_mut.follows.lender c.saturating_add.result).entries c.args.item.now c.args.weight c.in-Some.sum.now c.saturating_add.result c.in-Some.ensures.unique (sym c.in-Some.ensures.value) (λ small. omega (arith, small, c.saturating_add.ensures)) writes.0

pub returns-in_default-clause-added : goal.returns-in_default-clause-added
returns-in_default-clause-added c =
    weight_left c.args.sums.now.entries c.get_mut.follows.lender-at-none.entries c.args.item.now c.args.weight (sym c.in_default.ensures.value) (ap (λ m. m.entries) c.get_mut.follows.holds-at-none)
