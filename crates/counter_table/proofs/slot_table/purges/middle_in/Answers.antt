use Rattle.std.proofs.Common.{◌≡◌, ℕ, ◌≤◌, sym, length, map, take, replicate, ap, ◌∙◌, arith, length-take}
use Rattle.std.proofs.lemmas.List.{length-replicate, take-take}
use Rattle.std.proofs.lemmas.List.Sorted.{length_permutation}
use Rattle.counter_table.specs.Samples.{entries_from}
use Rattle.counter_table.proofs.PurgeMiddle.{IsSampleMiddle-from_split}
use Rattle.counter_table.proofs.PurgeSamples.{entries_around}
use Rattle.counter_table.proofs.slot_table.purges.middle_in.Goals as goal

pub whole_as_front-sample : goal.whole_as_front-sample
whole_as_front-sample g c = (c.requires.few, omega (arith, c.requires.room))

pub returns : goal.returns
returns g c =
    let all = entries_from c.args.start c.args.slots.now in
    let n = c.args.size in
    let es = take n all in
    let num : g.row.T.Denot × ℕ → ℕ = λ e. e.1 in
    let room : length (take n (replicate g.row.N 0)) ≡ n = length-take n (replicate g.row.N 0) ∙ omega (arith, length-replicate {A = ℕ} g.row.N 0, c.requires.few) in
    let part : c.gather_from.new.counts ≡ map num (take n es) = c.gather_from.ensures ∙ ap (λ k. map num (take k all)) room ∙ ap (map num) (sym (take-take n n all (omega arith))) in
    let many : n ≤ length es = omega (arith, length-take n all, length_permutation _ _ (entries_around c.args.start c.args.slots.now), c.requires.active) in
    let cut = c.select_nth_unstable-middle in
    IsSampleMiddle-from_split n es _ _ _ many cut.ensures.front_len (rw part at cut.ensures.permutation) cut.ensures.partitioned
