use Rattle.std.proofs.Common.{◌<◌, length, arith, ap, sym, subst, ◌+◌}
use Rattle.std.proofs.lemmas.List.Sorted.{length_permutation}
use Rattle.sketch_frequencies.specs.State.{FrequentState, state_of, capacity}
use Rattle.sketch_frequencies.specs.Steps.{Steps}
use Rattle.sketch_frequencies.specs.Growth.{Adds}
use Rattle.counter_table.specs.Tables.{put}
use Rattle.sketch_frequencies.proofs.UpdateParts.{length_put, step_with_room}
use Rattle.sketch_frequencies.proofs.Puts.{count_le_sum}
use Rattle.sketch_frequencies.proofs.UpdateStates.{adds_kept, state_after}
use Rattle.sketch_frequencies.proofs.frequent_items_sketch.FrequentItemsSketch.put.Goals as goal

pub adjust_or_put_value-requires-clause-fits : goal.adjust_or_put_value-requires-clause-fits
adjust_or_put_value-requires-clause-fits g c = λ _. omega (arith, count_le_sum g.T.PartialEq.eq c.self.inside.map.entries c.args.item, c.self.invariant.sum, c.requires.fits, ap (λ s. s.total) c.self.view_is)

pub invariant_of-self : goal.invariant_of-self
invariant_of-self g c =
    let eq = g.T.PartialEq.eq in
    let old = state_of c.self.inside.map c.self.inside.error c.self.inside.total c.self.inside.max_size c.self.inside.sample_size in
    let t = c.adjust_or_put_value.new.self in
    let put_in = c.adjust_or_put_value.ensures in
    let room = subst (λ (s : FrequentState g.row.T.Denot). length s.counters < capacity s.size) (sym c.self.view_is) c.requires.room in
    state_after g.met.T.Eq.laws old _ c.args.item c.args.count c.requires.positive c.self.invariant
    (adds_kept eq old c.args.item c.args.count t put_in.entries put_in.size put_in.key put_in.purges (omega (arith, length_permutation (put eq old.counters c.args.item c.args.count) t.entries put_in.entries, length_put eq old.counters c.args.item c.args.count, room, put_in.size)))

pub returns-clause-step : goal.returns-clause-step
returns-clause-step g c =
    let eq = g.T.PartialEq.eq in
    let old = state_of c.self.inside.map c.self.inside.error c.self.inside.total c.self.inside.max_size c.self.inside.sample_size in
    let t = c.adjust_or_put_value.new.self in
    let put_in = c.adjust_or_put_value.ensures in
    let new : FrequentState g.row.T.Denot = state_of t old.error (old.total + c.args.count) old.max_size old.sample_size in
    let room = subst (λ (s : FrequentState g.row.T.Denot). length s.counters < capacity s.size) (sym c.self.view_is) c.requires.room in
    let adds : Adds eq old c.args.item c.args.count new = adds_kept eq old c.args.item c.args.count t put_in.entries put_in.size put_in.key put_in.purges (omega (arith, length_permutation (put eq old.counters c.args.item c.args.count) t.entries put_in.entries, length_put eq old.counters c.args.item c.args.count, room, put_in.size)) in
    subst (λ s. Steps eq s c.args.item c.args.count new) c.self.view_is
    (step_with_room eq old new c.args.item c.args.count room adds)

pub returns-clause-state : goal.returns-clause-state
returns-clause-state g c = invariant_of-self g c
