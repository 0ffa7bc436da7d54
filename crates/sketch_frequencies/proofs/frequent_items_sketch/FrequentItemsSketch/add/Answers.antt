use Rattle.std.proofs.Common.{◌≡◌, ◌<◌, ◌+◌, length, arith, ap, sym, subst}
use Rattle.sketch_frequencies.specs.State.{FrequentState, IsState, capacity, state_of}
use Rattle.sketch_frequencies.specs.Growth.{Adds}
use Rattle.counter_table.specs.Tables.{put}
use Rattle.sketch_frequencies.proofs.Puts.{count_le_sum}
use Rattle.sketch_frequencies.proofs.UpdateStates.{adds_excess, state_after}
use Rattle.sketch_frequencies.proofs.frequent_items_sketch.FrequentItemsSketch.add.Goals as goal

pub adjust_or_put_value-requires-clause-fits : goal.adjust_or_put_value-requires-clause-fits
adjust_or_put_value-requires-clause-fits g c = λ _. omega (arith, count_le_sum g.T.PartialEq.eq c.self.inside.map.entries c.args.item, c.self.invariant.sum, c.requires.fits, ap (λ s. s.total) c.self.view_is)

pub adjust_or_put_value-requires-clause-room : goal.adjust_or_put_value-requires-clause-room
adjust_or_put_value-requires-clause-room g c = λ _. omega (arith, c.self.invariant.few, c.self.invariant.least)

pub returns-clause-adds : goal.returns-clause-adds
returns-clause-adds g c =
    let eq = g.T.PartialEq.eq in
    let old = state_of c.self.inside.map c.self.inside.error c.self.inside.total c.self.inside.max_size c.self.inside.sample_size in
    let t = c.adjust_or_put_value.new.self in
    let e = c.adjust_or_put_value.ensures in
    let u = c.purge_excess.new.map in
    let new : FrequentState g.row.T.Denot = state_of u (old.error + c.purge_excess.result) (old.total + c.args.count) old.max_size old.sample_size in
    let room : capacity old.size < length (put eq old.counters c.args.item c.args.count) → old.size ≡ old.max_size =
    subst (λ (s : FrequentState g.row.T.Denot). capacity s.size < length (put eq s.counters c.args.item c.args.count) → s.size ≡ s.max_size) (sym c.self.view_is) c.requires.room in
    subst (λ s. Adds eq s c.args.item c.args.count new) c.self.view_is
    (adds_excess eq old c.args.item c.args.count t u c.purge_excess.result e.entries e.size e.key e.purges room c.self.invariant c.purge_excess.ensures)

pub invariant_of-self : goal.invariant_of-self
invariant_of-self g c =
    state_after g.met.T.Eq.laws c.args.self.now _ c.args.item c.args.count c.requires.positive (subst (λ s. IsState g.T.PartialEq.eq s) c.self.view_is c.self.invariant) (returns-clause-adds g c)

pub returns-clause-state : goal.returns-clause-state
returns-clause-state g c = invariant_of-self g c

pub overflow_add-self-2 : goal.overflow_add-self-2
overflow_add-self-2 g c =
    let eq = g.T.PartialEq.eq in
    let old = state_of c.self.inside.map c.self.inside.error c.self.inside.total c.self.inside.max_size c.self.inside.sample_size in
    let e = c.adjust_or_put_value.ensures in
    let room : capacity old.size < length (put eq old.counters c.args.item c.args.count) → old.size ≡ old.max_size =
    subst (λ (s : FrequentState g.row.T.Denot). capacity s.size < length (put eq s.counters c.args.item c.args.count) → s.size ≡ s.max_size) (sym c.self.view_is) c.requires.room in
    let adds = adds_excess eq old c.args.item c.args.count c.adjust_or_put_value.new.self c.purge_excess.new.map c.purge_excess.result e.entries e.size e.key e.purges room c.self.invariant c.purge_excess.ensures in
    let after = state_after g.met.T.Eq.laws old _ c.args.item c.args.count c.requires.positive c.self.invariant adds in
    omega (arith, after.sum, c.requires.fits, ap (λ s. s.total) c.self.view_is)
