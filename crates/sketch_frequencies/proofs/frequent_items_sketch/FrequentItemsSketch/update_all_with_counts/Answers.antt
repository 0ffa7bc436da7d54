use Rattle.std.proofs.Common.{◌≡◌, ℕ, ◌+◌, ◌<◌, ◌≤◌, Bool, true, length, take, drop, get_or, sym, subst, arith}
use Rattle.std.specs.List.{zip}
use Rattle.std.specs.Prelude.{filter}
use Rattle.std.proofs.lemmas.Result.{err_from_is_err_and}
use Rattle.std.proofs.lemmas.Bool.{false_from_ne_true, false≢true, true_from_ne_false}
use Rattle.sketch_frequencies.specs.KeyedBatches.{UpdatesWeighedKeys, StopsAtWeighedKey}
use Rattle.sketch_frequencies.specs.State.{FrequentState, TotalHasRoom, must_grow}
use Rattle.sketch_frequencies.proofs.KeyedBatches.{key_at, left_after, none_left, weighed_keys_more}
use Rattle.sketch_frequencies.proofs.WeightedBatches.{has_weight, weighed_more, weighed_parts, weighed_all, some_from, one_fits, total_more, total_after}
use Rattle.sketch_frequencies.proofs.frequent_items_sketch.FrequentItemsSketch.update_all_with_counts.Given as given
use Rattle.sketch_frequencies.proofs.frequent_items_sketch.FrequentItemsSketch.update_all_with_counts.Goals as goal
use Rattle.sketch_frequencies.proofs.frequent_items_sketch.FrequentItemsSketch.update_all_with_counts.Goals.{After-drop-keys-in_default}

-- there is a key for each count
no_end : (g : given.Over) (c : After-drop-keys-in_default g) → ⊥
no_end g c =
    let ends : length (g.K.Keys.names c.args.keys) ≤ c.each.i = none_left (g.K.Keys.names c.args.keys) (g.K.Keys.names c.each.keys) c.each.i c.each.invariant.left c.in_default.ensures.0 in
    omega (arith, ends, c.requires.same, c.each-test.true)

pub returns-in_default-clause-updates : goal.returns-in_default-clause-updates
returns-in_default-clause-updates g c = absurd (no_end g c)

pub each-preserved : goal.each-preserved
each-preserved g c =
    let eq = g.T.PartialEq.eq in
    let all = g.K.Keys.names c.args.keys in
    let left = g.K.Keys.names c.each.keys in
    let later = g.K.Keys.names c.next_key.new.self in
    let ws = c.args.counts.now in
    let i = c.each.i in
    let x : g.row.T.Denot → Bool = g.K.Key.ItemKey.names c.in-Some.key in
    let w : ℕ = get_or ws i 0 in
    let other : i < length ws = c.each-test.true in
    let lt : i < length all = omega (arith, c.requires.same, c.each-test.true) in
    let mid = c.each.self in
    let new = c.update_item_with_count.new.self in
    let e = c.in_ok-update_item_with_count.ensures in
    let at = key_at all left later i x c.each.invariant.left c.in-Some.ensures in
    let more = weighed_more all ws i x c.requires.same lt at in
    record {
      left = left_after all left later i x lt c.each.invariant.left c.in-Some.ensures;
      added = subst (λ ps. UpdatesWeighedKeys eq c.args.self.now (filter has_weight ps) new) (sym more) (weighed_keys_more eq c.args.self.now mid new (take i (zip all ws)) (x, w) (g.met.K.Key.ItemKey.respects_eq c.in-Some.key) c.each.invariant.added (λ z. (e.zero z).1) e.step e.stands e.budget);
      total = total_more ws i c.args.self.now.total mid.total new.total other c.each.invariant.total (total_after mid new w (λ z. (e.zero z).1) (λ pos. (e.step pos).step.total));
      state = c.update_item_with_count.ensures.state;
    }

pub returns-in_err-update_item_with_count-clause-memory : goal.returns-in_err-update_item_with_count-clause-memory
returns-in_err-update_item_with_count-clause-memory g c = λ room.
    let ws = c.args.counts.now in
    let i = c.each.i in
    let p = err_from_is_err_and c.from_residual.result c.from_residual.ensures.1 in
    let fits : TotalHasRoom c.each.self (get_or ws i 0) = one_fits ws i c.args.self.now.total c.each.self.total c.each-test.true room c.each.invariant.total in
    rw (p.1, p.2) (c.in_err-update_item_with_count.ensures.memory fits)

pub returns-in_err-update_item_with_count-clause-stops : goal.returns-in_err-update_item_with_count-clause-stops
returns-in_err-update_item_with_count-clause-stops g c = λ room.
    let eq = g.T.PartialEq.eq in
    let all = g.K.Keys.names c.args.keys in
    let left = g.K.Keys.names c.each.keys in
    let later = g.K.Keys.names c.next_key.new.self in
    let ws = c.args.counts.now in
    let i = c.each.i in
    let x : g.row.T.Denot → Bool = g.K.Key.ItemKey.names c.in-Some.key in
    let w : ℕ = get_or ws i 0 in
    let lt : i < length all = omega (arith, c.requires.same, c.each-test.true) in
    let p = err_from_is_err_and c.from_residual.result c.from_residual.ensures.1 in
    let e = c.in_err-update_item_with_count.ensures in
    let fits : TotalHasRoom c.each.self w = one_fits ws i c.args.self.now.total c.each.self.total c.each-test.true room c.each.invariant.total in
    let at = key_at all left later i x c.each.invariant.left c.in-Some.ensures in
    let stops : StopsAtWeighedKey eq c.args.self.now (filter has_weight (zip all ws)) c.each.self = record {
      before = filter has_weight (take i (zip all ws));
      refused = (x, w);
      behind = filter has_weight (drop (i + 1) (zip all ws));
      parts = weighed_parts all ws i x c.requires.same lt at (some_from w (λ z. false≢true (e.zero z).0));
      added = c.each.invariant.added;
      untracked = false_from_ne_true _ (λ t. false≢true (e.succeeds fits t));
    } in
    rw p.1 (subst (λ (s : FrequentState g.row.T.Denot). StopsAtWeighedKey eq c.args.self.now (filter has_weight (zip all ws)) s) (sym e.err) stops)

pub returns-in_err-update_item_with_count-clause-doubles : goal.returns-in_err-update_item_with_count-clause-doubles
returns-in_err-update_item_with_count-clause-doubles g c = λ free room.
    let ws = c.args.counts.now in
    let i = c.each.i in
    let p = err_from_is_err_and c.from_residual.result c.from_residual.ensures.1 in
    let e = c.in_err-update_item_with_count.ensures in
    let fits : TotalHasRoom c.each.self (get_or ws i 0) = one_fits ws i c.args.self.now.total c.each.self.total c.each-test.true room c.each.invariant.total in
    let due : must_grow c.each.self ≡ true = true_from_ne_false (must_grow c.each.self) (λ f. false≢true (e.infallible (free c.in-Some.key) fits f)) in
    rw p.1 (subst (λ (s : FrequentState g.row.T.Denot). must_grow s ≡ true) (sym e.err) due)

pub returns-clause-updates : goal.returns-clause-updates
returns-clause-updates g c =
    let all = g.K.Keys.names c.args.keys in
    subst (λ ps. UpdatesWeighedKeys g.T.PartialEq.eq c.args.self.now (filter has_weight ps) c.each.self) (weighed_all all c.args.counts.now c.each.i c.requires.same (omega (arith, c.requires.same, c.each-test.false))) c.each.invariant.added
