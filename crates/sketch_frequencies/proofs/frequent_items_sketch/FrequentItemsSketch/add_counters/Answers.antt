use Rattle.std.proofs.Common.{arith, ap, subst, IsPermutation}
use Rattle.std.proofs.lemmas.Bool.{false≢true}
use Rattle.std.proofs.lemmas.Result.{err_from_is_err_and}
use Rattle.sketch_frequencies.specs.State.{IsState}
use Rattle.sketch_frequencies.proofs.Merges.{added_none, added_more, added_all, next_positive, next_fits}
use Rattle.sketch_frequencies.proofs.UpdateParts.{no_growth_at_max, size_stays}
use Rattle.sketch_frequencies.proofs.frequent_items_sketch.FrequentItemsSketch.add_counters.Goals as goal

pub loop-item-init : goal.loop-item-init
loop-item-init g c =
    let order = c.iter-item-items.result.rest in
    let whole = subst (λ (l : _). IsPermutation l order) (ap (λ s. s.counters) c.other.view_is) c.iter-item-items.ensures.entries in
    rw (c.into_iter-item-iterator.ensures.into_iter_gives, c.iter-item-items.ensures.given) (tt, tt, added_none g.met.T.Eq.laws c.args.self.now c.args.other.now order whole, subst (λ s. IsState g.T.PartialEq.eq s) c.self.view_is c.self.invariant, λ at. at)

pub loop-item-preserved : goal.loop-item-preserved
loop-item-preserved g c =
    let other = c.args.other.now in
    let other_ok : IsState g.T.PartialEq.eq other = subst (λ s. IsState g.T.PartialEq.eq s) c.other.view_is c.other.invariant in
    let h = c.in-Some.ensures.steps in
    let so_far = c.loop-item.invariant.2 in
    let some = next_positive g.met.T.Eq.laws other _ _ _ (c.in-Some.item.now, c.in-Some.count) other_ok so_far.whole h.0 in
    let step = c.in_ok-update_item_with_count.ensures.step some in
    rw h.1 (tt, tt, added_more g.met.T.Eq.laws c.args.self.now other c.loop-item.self c.update_item_with_count.new.self _ _ _ (c.in-Some.item.now, c.in-Some.count) so_far h.0 step, c.update_item_with_count.ensures.state, λ at. size_stays g.T.PartialEq.eq c.loop-item.self c.update_item_with_count.new.self step.item c.in-Some.count step.step (c.loop-item.invariant.4 at))

pub returns-in_err-update_item_with_count-clause-err : goal.returns-in_err-update_item_with_count-clause-err
returns-in_err-update_item_with_count-clause-err g c =
    let other = c.args.other.now in
    let other_ok : IsState g.T.PartialEq.eq other = subst (λ s. IsState g.T.PartialEq.eq s) c.other.view_is c.other.invariant in
    let h = c.in-Some.ensures.steps in
    let low = next_fits g.met.T.Eq.laws c.args.self.now other c.loop-item.self _ _ _ (c.in-Some.item.now, c.in-Some.count) other_ok c.loop-item.invariant.2 h.0 in
    let p = err_from_is_err_and c.from_residual.result c.from_residual.ensures.1 in
    rw (p.1, p.2) (c.in_err-update_item_with_count.ensures.memory (omega (arith, low, c.requires.fits)))

pub returns-clause-ok : goal.returns-clause-ok
returns-clause-ok g c = added_all g.met.T.Eq.laws c.args.self.now c.args.other.now c.loop-item.self _ _ c.loop-item.invariant.2 c.in-None.ensures.steps.0.0

pub returns-clause-state : goal.returns-clause-state
returns-clause-state g c = c.loop-item.invariant.3

pub returns-in_err-update_item_with_count-clause-infallible : goal.returns-in_err-update_item_with_count-clause-infallible
returns-in_err-update_item_with_count-clause-infallible g c = λ sure at.
    let other = c.args.other.now in
    let other_ok : IsState g.T.PartialEq.eq other = subst (λ s. IsState g.T.PartialEq.eq s) c.other.view_is c.other.invariant in
    let low = next_fits g.met.T.Eq.laws c.args.self.now other c.loop-item.self _ _ _ (c.in-Some.item.now, c.in-Some.count) other_ok c.loop-item.invariant.2 c.in-Some.ensures.steps.0 in
    let fine = c.in_err-update_item_with_count.ensures.infallible (sure c.in-Some.item.now) (omega (arith, low, c.requires.fits)) (no_growth_at_max c.loop-item.self (c.loop-item.invariant.4 at)) in
    absurd (false≢true fine)

pub returns-clause-greatest : goal.returns-clause-greatest
returns-clause-greatest g c = c.loop-item.invariant.4
