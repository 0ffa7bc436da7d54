use Rattle.std.proofs.Common.{◌≡◌, ◌+◌, arith, ap, sym, subst}
use Rattle.sketch_frequencies.specs.State.{FrequentState, state_of}
use Rattle.sketch_frequencies.specs.Steps.{Steps}
use Rattle.sketch_frequencies.specs.Growth.{Adds}
use Rattle.sketch_frequencies.proofs.Puts.{count_by_key_le_sum}
use Rattle.sketch_frequencies.proofs.UpdateParts.{step_at_max}
use Rattle.sketch_frequencies.proofs.UpdateStates.{adds_excess, state_after}
use Rattle.sketch_frequencies.proofs.frequent_items_sketch.FrequentItemsSketch.add_by_key.Goals as goal

pub adjust_or_put_by_key-requires-clause-fits : goal.adjust_or_put_by_key-requires-clause-fits
adjust_or_put_by_key-requires-clause-fits g c = λ _. omega (arith, count_by_key_le_sum (g.K.ItemKey.names c.args.key) c.self.inside.map.entries, c.self.invariant.sum, c.requires.fits, ap (λ s. s.total) c.self.view_is)

pub adjust_or_put_by_key-requires-clause-room : goal.adjust_or_put_by_key-requires-clause-room
adjust_or_put_by_key-requires-clause-room g c = λ _. omega (arith, c.self.invariant.few, c.self.invariant.least)

pub returns-clause-step : goal.returns-clause-step
returns-clause-step g c =
    let eq = g.T.PartialEq.eq in
    let old = state_of c.self.inside.map c.self.inside.error c.self.inside.total c.self.inside.max_size c.self.inside.sample_size in
    let t = c.adjust_or_put_by_key.new.self in
    let e = c.adjust_or_put_by_key.ensures in
    let puts = c.in_ok-adjust_or_put_by_key.ensures.entries in
    let u = c.purge_excess.new.map in
    let new : FrequentState g.row.T.Denot = state_of u (old.error + c.purge_excess.result) (old.total + c.args.count) old.max_size old.sample_size in
    let at : old.size ≡ old.max_size = subst (λ (s : FrequentState g.row.T.Denot). s.size ≡ s.max_size) (sym c.self.view_is) c.requires.greatest in
    let adds : Adds eq old puts.item c.args.count new =
    adds_excess eq old puts.item c.args.count t u c.purge_excess.result puts.entries e.size e.key e.purges (λ _. at) c.self.invariant c.purge_excess.ensures in
    record {
      item = puts.item;
      named = puts.named;
      step = subst (λ s. Steps eq s puts.item c.args.count new) c.self.view_is (step_at_max eq old new puts.item c.args.count at adds);
    }

pub invariant_of-self-2 : goal.invariant_of-self-2
invariant_of-self-2 g c =
    let eq = g.T.PartialEq.eq in
    let old = state_of c.self.inside.map c.self.inside.error c.self.inside.total c.self.inside.max_size c.self.inside.sample_size in
    let t = c.adjust_or_put_by_key.new.self in
    let e = c.adjust_or_put_by_key.ensures in
    let puts = c.in_ok-adjust_or_put_by_key.ensures.entries in
    let u = c.purge_excess.new.map in
    let at : old.size ≡ old.max_size = subst (λ (s : FrequentState g.row.T.Denot). s.size ≡ s.max_size) (sym c.self.view_is) c.requires.greatest in
    state_after g.met.T.Eq.laws old _ puts.item c.args.count c.requires.positive c.self.invariant
    (adds_excess eq old puts.item c.args.count t u c.purge_excess.result puts.entries e.size e.key e.purges (λ _. at) c.self.invariant c.purge_excess.ensures)

pub returns-clause-state : goal.returns-clause-state
returns-clause-state g c = invariant_of-self-2 g c

pub overflow_add-self-2 : goal.overflow_add-self-2
overflow_add-self-2 g c =
    let old = state_of c.self.inside.map c.self.inside.error c.self.inside.total c.self.inside.max_size c.self.inside.sample_size in
    let e = c.adjust_or_put_by_key.ensures in
    let puts = c.in_ok-adjust_or_put_by_key.ensures.entries in
    let at : old.size ≡ old.max_size = subst (λ (s : FrequentState g.row.T.Denot). s.size ≡ s.max_size) (sym c.self.view_is) c.requires.greatest in
    let adds = adds_excess g.T.PartialEq.eq old puts.item c.args.count c.adjust_or_put_by_key.new.self c.purge_excess.new.map c.purge_excess.result puts.entries e.size e.key e.purges (λ _. at) c.self.invariant c.purge_excess.ensures in
    let after = state_after g.met.T.Eq.laws old _ puts.item c.args.count c.requires.positive c.self.invariant adds in
    omega (arith, after.sum, c.requires.fits, ap (λ s. s.total) c.self.view_is)
