use Rattle.std.proofs.Common.{ap, arith, length, refl, ◌∙◌}
use Rattle.counter_table.proofs.reverse_purge_item_iter.ReversePurgeItemIterIterator.size_hint.Goals as goal

pub returns : goal.returns
returns g c =
    let left = c.self.invariant.1 ∙ ap (λ walk. length walk.rest) c.self.view_is in
    record { lower = λ _. omega (arith, left); upper = (tt, omega (arith, left)); exact = (left, refl) }
