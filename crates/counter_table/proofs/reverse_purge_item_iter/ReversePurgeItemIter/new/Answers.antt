use Rattle.std.proofs.Common.{◌*◌, ◌/◌, length, bit_or, sym, ◌∙◌}
use Rattle.std.proofs.lemmas.List.Sorted.{length_permutation}
use Rattle.counter_table.proofs.WalkSteps.{IsCursor-start, golden_odd}
use Rattle.counter_table.proofs.WalkSlots.{slots_give_all}
use Rattle.counter_table.proofs.reverse_purge_item_iter.ReversePurgeItemIter.new.Goals as goal

pub invariant_of-result : goal.invariant_of-result
invariant_of-result g c =
    let n = length c.args.slots.now in
    let all = length_permutation _ _ (slots_give_all c.args.slots.now (bit_or (n * 618 / 1000) 1) c.requires.size (golden_odd (n * 618 / 1000))) in
    (IsCursor-start _ c.requires.size, c.requires.active ∙ sym all)

pub returns-clause-rest : goal.returns-clause-rest
returns-clause-rest g c =
    let n = length c.args.slots.now in
    slots_give_all _ (bit_or (n * 618 / 1000) 1) c.requires.size (golden_odd (n * 618 / 1000))
