use Rattle.std.proofs.Common.{subst, arith}
use Rattle.sketch_frequencies.specs.ManyMerges.{states_of}
use Rattle.sketch_frequencies.specs.State.{IsState}
use Rattle.sketch_frequencies.proofs.ManyMerges.{joins_all_alike, states_some}
use Rattle.sketch_frequencies.proofs.frequent_items_sketch.FrequentItemsSketch.merged_with.Goals as goal

pub absorb_all-requires-clause-fits : goal.absorb_all-requires-clause-fits
absorb_all-requires-clause-fits g c = omega (arith, c.in_ok-merged.ensures.same.holds.total, c.requires.fits)

pub returns-clause-joins : goal.returns-clause-joins
returns-clause-joins g c =
    let e = c.in_ok-merged.ensures in
    joins_all_alike g.met.T.Eq.laws c.args.self.now c.in_ok-merged.merged c.absorb_all.new.self (states_of c.args.others.now) (subst (λ s. IsState g.T.PartialEq.eq s) c.self.view_is c.self.invariant) e.same (states_some c.args.others.now c.requires.some) c.in_ok-absorb_all.ensures.joins

pub returns-clause-stands : goal.returns-clause-stands
returns-clause-stands g c = λ h gs s all. c.in_ok-absorb_all.ensures.stands h gs (c.in_ok-merged.ensures.stands h s) all

pub returns-clause-budget : goal.returns-clause-budget
returns-clause-budget g c = λ h gs s all.
    let e = c.in_ok-merged.ensures in
    c.in_ok-absorb_all.ensures.budget h gs (e.stands h s.0, e.budget h s.1) all
