use Rattle.std.proofs.Common.{arith, ap, sym, subst, ◌+◌, ◌∙◌}
use Rattle.std.proofs.lemmas.Bool.{false≢true}
use Rattle.sketch_frequencies.specs.State.{FrequentState, IsState, state_of}
use Rattle.sketch_frequencies.specs.Steps.{Steps}
use Rattle.counter_table.specs.Keys.{item_by_key, tracked_by_key}
use Rattle.sketch_frequencies.proofs.UpdateParts.{adds_tracked, step_tracked}
use Rattle.sketch_frequencies.proofs.Puts.{count_by_key_le_sum}
use Rattle.sketch_frequencies.proofs.UpdateStates.{state_after}
use Rattle.sketch_frequencies.proofs.frequent_items_sketch.FrequentItemsSketch.adjust_by_key.Goals as goal

pub adjust_by_key-requires : goal.adjust_by_key-requires
adjust_by_key-requires g c = λ _. omega (arith, count_by_key_le_sum (g.K.ItemKey.names c.args.key) c.self.inside.map.entries, c.self.invariant.sum, c.requires.fits, ap (λ s. s.total) c.self.view_is)

-- nothing is tracked, and nothing was done

pub invariant_of-self : goal.invariant_of-self
invariant_of-self g c =
    subst (λ t. IsState g.T.PartialEq.eq (state_of t c.self.inside.error c.self.inside.total c.self.inside.max_size c.self.inside.sample_size)) (sym (c.adjust_by_key.ensures.absent c.if-not-adjust_by_key.true)) c.self.invariant

pub returns-then-not-adjust_by_key-clause-state : goal.returns-then-not-adjust_by_key-clause-state
returns-then-not-adjust_by_key-clause-state g c = invariant_of-self g c

pub returns-then-not-adjust_by_key-clause-present : goal.returns-then-not-adjust_by_key-clause-present
returns-then-not-adjust_by_key-clause-present g c = λ found. absurd (false≢true found)

-- its count was raised

pub returns-clause-present : goal.returns-clause-present
returns-clause-present g c = λ _ x is.
    let eq = g.T.PartialEq.eq in
    let old = state_of c.self.inside.map c.self.inside.error c.self.inside.total c.self.inside.max_size c.self.inside.sample_size in
    let t = c.adjust_by_key.new.self in
    let new : FrequentState g.row.T.Denot = state_of t old.error (old.total + c.args.count) old.max_size old.sample_size in
    let there = tracked_by_key (g.K.ItemKey.names c.args.key) (g.met.K.ItemKey.respects_eq c.args.key) old.counters x is ∙ (sym c.adjust_by_key.ensures.tracked ∙ c.if-not-adjust_by_key.false) in
    subst (λ s. Steps eq s x c.args.count new) c.self.view_is
    (step_tracked eq old new x c.args.count c.self.invariant there (adds_tracked eq old x c.args.count t c.self.invariant there (c.adjust_by_key.ensures.present c.if-not-adjust_by_key.false x is) c.adjust_by_key.ensures.size c.adjust_by_key.ensures.key c.adjust_by_key.ensures.purges))

pub invariant_of-self-2 : goal.invariant_of-self-2
invariant_of-self-2 g c =
    let old = state_of c.self.inside.map c.self.inside.error c.self.inside.total c.self.inside.max_size c.self.inside.sample_size in
    let named = sym c.adjust_by_key.ensures.tracked ∙ c.if-not-adjust_by_key.false in
    let x = item_by_key (g.K.ItemKey.names c.args.key) old.counters named in
    let there = tracked_by_key (g.K.ItemKey.names c.args.key) (g.met.K.ItemKey.respects_eq c.args.key) old.counters x.0 x.1 ∙ named in
    state_after g.met.T.Eq.laws old _ x.0 c.args.count c.requires.positive c.self.invariant (adds_tracked g.T.PartialEq.eq old x.0 c.args.count c.adjust_by_key.new.self c.self.invariant there (c.adjust_by_key.ensures.present c.if-not-adjust_by_key.false x.0 x.1) c.adjust_by_key.ensures.size c.adjust_by_key.ensures.key c.adjust_by_key.ensures.purges)

pub returns-clause-state : goal.returns-clause-state
returns-clause-state g c = invariant_of-self-2 g c
