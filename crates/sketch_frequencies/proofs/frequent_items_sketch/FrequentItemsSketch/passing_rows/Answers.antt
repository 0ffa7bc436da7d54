use Rattle.std.proofs.Common.{◌≡◌, ◌+◌, true, false, arith, ap, sym, ◌∙◌, subst, IsPermutation}
use Rattle.sketch_frequencies.specs.State.{IsState}
use Rattle.sketch_frequencies.proofs.Reports.{passes_tested, rows_none, rows_skip, rows_more, rows_done, count_fits}
use Rattle.sketch_frequencies.proofs.frequent_items_sketch.FrequentItemsSketch.passing_rows.Goals as goal

pub loop-item-init : goal.loop-item-init
loop-item-init g c =
    let eq = g.T.PartialEq.eq in
    let s = c.args.self.now in
    let ok : IsState eq s = subst (λ s. IsState eq s) c.self.view_is c.self.invariant in
    let order = c.iter-item-items.result.rest in
    let whole = subst (λ (l : _). IsPermutation l order) (ap (λ s. s.counters) c.self.view_is) c.iter-item-items.ensures.entries in
    rw (c.into_iter-item-iterator.ensures.into_iter_gives, c.iter-item-items.ensures.given, c.in_ok-rows.ensures.items) (tt, tt, rows_none g.met.T.Eq.laws c.args.error_type c.args.threshold s ok.distinct order whole)

pub overflow_add-upper_bound : goal.overflow_add-upper_bound
overflow_add-upper_bound g c =
    let eq = g.T.PartialEq.eq in
    let s = c.args.self.now in
    let ok : IsState eq s = subst (λ s. IsState eq s) c.self.view_is c.self.invariant in
    let h = c.in-Some.ensures.steps in
    let low = count_fits s c.loop-item.item-iterator.given c.loop-item.item-iterator.rest c.next.new.self.rest (c.in-Some.item.now, c.in-Some.count) c.loop-item.invariant.2.counters h.0 ok.sum in
    omega (arith, low, ap (λ s. s.total) c.self.view_is, ap (λ s. s.error) c.self.view_is)

pub loop-item-preserved-in_ok-push : goal.loop-item-preserved-in_ok-push
loop-item-preserved-in_ok-push g c =
    let eq = g.T.PartialEq.eq in
    let s = c.args.self.now in
    let ok : IsState eq s = subst (λ s. IsState eq s) c.self.view_is c.self.invariant in
    let h = c.in-Some.ensures.steps in
    let kind = c.args.error_type in
    let count = c.in-Some.count in
    let error = ap (λ s. s.error) c.self.view_is in
    let high = passes_tested kind c.args.threshold s count _ _ _ true error c.max-floor.ensures c.is_above.ensures c.if-is_above.true in
    let row = c.new.result in
    let same = subst (λ y. eq c.in-Some.item.now y ≡ true) (sym (ap (λ r. r.item) c.new.ensures)) (g.met.T.EqualClone.clones_equal c.in-Some.item.now c.in_ok-clone.field-0 c.in_ok-clone.ensures.cases) in
    let upper = ap (λ e. count + e) error in
    rw (h.1, c.in_ok-push.ensures.items) (tt, tt, rows_more g.met.T.Eq.laws kind c.args.threshold s ok.distinct _ _ _ (c.in-Some.item.now, count) _ row h.0 c.loop-item.invariant.2 same high (ap (λ r. r.estimate) c.new.ensures ∙ upper) (ap (λ r. r.upper_bound) c.new.ensures ∙ upper) (ap (λ r. r.lower_bound) c.new.ensures))

pub loop-item-preserved : goal.loop-item-preserved
loop-item-preserved g c =
    let eq = g.T.PartialEq.eq in
    let s = c.args.self.now in
    let ok : IsState eq s = subst (λ s. IsState eq s) c.self.view_is c.self.invariant in
    let h = c.in-Some.ensures.steps in
    let low = passes_tested c.args.error_type c.args.threshold s c.in-Some.count _ _ _ false (ap (λ s. s.error) c.self.view_is) c.max-floor.ensures c.is_above.ensures c.if-is_above.false in
    rw h.1 (tt, tt, rows_skip g.met.T.Eq.laws c.args.error_type c.args.threshold s ok.distinct _ _ _ (c.in-Some.item.now, c.in-Some.count) _ h.0 c.loop-item.invariant.2 low)

pub returns-clause-exact : goal.returns-clause-exact
returns-clause-exact g c =
    let eq = g.T.PartialEq.eq in
    let s = c.args.self.now in
    let ok : IsState eq s = subst (λ s. IsState eq s) c.self.view_is c.self.invariant in
    rows_done g.met.T.Eq.laws c.args.error_type c.args.threshold s ok.distinct _ _ _ c.in-None.ensures.steps.0.0 c.loop-item.invariant.2
