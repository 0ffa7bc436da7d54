use Rattle.std.proofs.Common.{◌-◌, length, take, drop, arith, length-take, length-drop, length-append}
use Rattle.std.proofs.lemmas.List.{drop_all}
use Rattle.counter_table.specs.Slots.{entries_of}
use Rattle.counter_table.proofs.PurgeSamples.{entries_around, gathered_both}
use Rattle.std.proofs.lemmas.List.Sorted.{length_permutation}
use Rattle.counter_table.proofs.slot_table.purges.gather_from.Goals as goal

pub returns : goal.returns
returns g c =
    let slots = c.args.slots.now in
    let start = c.args.start in
    let es = entries_of (drop start slots) in
    let fs = entries_of (take start slots) in
    let first = c.gather_counts-gathered in
    let second = c.gather_counts in
    let r = first.result in
    let xs = first.new.counts in
    let n = length c.args.counts.now in
    let some = rw c.split_at.ensures.back at first.ensures in
    let others = rw c.split_at.ensures.front at second.ensures in
    let all = length_permutation _ _ (entries_around start slots) in
    let place = length-take (length xs - r) (drop r xs) in
    let left = length-drop r xs in
    gathered_both es fs n r second.result xs second.new.counts _ some.number some.counts
    (omega (arith, others.number, place, left, first.auto.counts))
    others.counts
    (omega (arith, c.requires.many, all, length-append es fs))
    (omega (arith, second.auto.counts, place, left, first.auto.counts))
    (drop_all (length xs - r) (drop r xs) (omega (arith, left)))
