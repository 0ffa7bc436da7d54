use Rattle.std.proofs.Common.{◌<◌, length, arith, ap, sym, subst, ◌+◌}
use Rattle.std.proofs.lemmas.List.Sorted.{length_permutation}
use Rattle.sketch_frequencies.specs.State.{FrequentState, state_of, capacity}
use Rattle.sketch_frequencies.specs.Steps.{Steps}
use Rattle.sketch_frequencies.specs.Growth.{Adds}
use Rattle.counter_table.specs.Tables.{put}
use Rattle.sketch_frequencies.proofs.UpdateParts.{length_put, step_with_room}
use Rattle.sketch_frequencies.proofs.Puts.{count_by_key_le_sum}
use Rattle.sketch_frequencies.proofs.UpdateStates.{adds_kept, state_after}
use Rattle.sketch_frequencies.proofs.frequent_items_sketch.FrequentItemsSketch.put_by_key.Goals as goal

pub adjust_or_put_by_key-requires-clause-fits : goal.adjust_or_put_by_key-requires-clause-fits
adjust_or_put_by_key-requires-clause-fits g c = λ _. omega (arith, count_by_key_le_sum (g.K.ItemKey.names c.args.key) c.self.inside.map.entries, c.self.invariant.sum, c.requires.fits, ap (λ s. s.total) c.self.view_is)

pub invariant_of-self-2 : goal.invariant_of-self-2
invariant_of-self-2 g c =
    let eq = g.T.PartialEq.eq in
    let old = state_of c.self.inside.map c.self.inside.error c.self.inside.total c.self.inside.max_size c.self.inside.sample_size in
    let t = c.adjust_or_put_by_key.new.self in
    let puts = c.in_ok-adjust_or_put_by_key.ensures.entries in
    let size = c.adjust_or_put_by_key.ensures.size in
    let room = subst (λ (s : FrequentState g.row.T.Denot). length s.counters < capacity s.size) (sym c.self.view_is) c.requires.room in
    state_after g.met.T.Eq.laws old _ puts.item c.args.count c.requires.positive c.self.invariant
    (adds_kept eq old puts.item c.args.count t puts.entries size c.adjust_or_put_by_key.ensures.key c.adjust_or_put_by_key.ensures.purges (omega (arith, length_permutation (put eq old.counters puts.item c.args.count) t.entries puts.entries, length_put eq old.counters puts.item c.args.count, room, size)))

pub returns-clause-step : goal.returns-clause-step
returns-clause-step g c =
    let eq = g.T.PartialEq.eq in
    let old = state_of c.self.inside.map c.self.inside.error c.self.inside.total c.self.inside.max_size c.self.inside.sample_size in
    let t = c.adjust_or_put_by_key.new.self in
    let puts = c.in_ok-adjust_or_put_by_key.ensures.entries in
    let size = c.adjust_or_put_by_key.ensures.size in
    let new : FrequentState g.row.T.Denot = state_of t old.error (old.total + c.args.count) old.max_size old.sample_size in
    let room = subst (λ (s : FrequentState g.row.T.Denot). length s.counters < capacity s.size) (sym c.self.view_is) c.requires.room in
    let adds : Adds eq old puts.item c.args.count new = adds_kept eq old puts.item c.args.count t puts.entries size c.adjust_or_put_by_key.ensures.key c.adjust_or_put_by_key.ensures.purges (omega (arith, length_permutation (put eq old.counters puts.item c.args.count) t.entries puts.entries, length_put eq old.counters puts.item c.args.count, room, size)) in
    record {
      item = puts.item;
      named = puts.named;
      step = subst (λ s. Steps eq s puts.item c.args.count new) c.self.view_is (step_with_room eq old new puts.item c.args.count room adds);
    }

pub returns-clause-state : goal.returns-clause-state
returns-clause-state g c = invariant_of-self-2 g c
