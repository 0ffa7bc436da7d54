use Rattle.std.proofs.Common.{rules, ◌∷◌, [], ◌++◌}
use Rattle.sketch_base.proofs.Yielded.{yields_more}
use Rattle.sketch_countmin.proofs.BatchUpdates.{stands_all}
use Rattle.sketch_countmin.proofs.ItemSequences.{counts_none, seen_more, seen_all, seen_stop}
use Rattle.sketch_countmin.proofs.Tables.{state_shown}
use Rattle.sketch_countmin.proofs.count_min_sketch.CountMinSketch.extend.Goals as goal

pub loop-item-init : goal.loop-item-init
loop-item-init g c = record {
  counted = counts_none c.args.self.now;
  state = state_shown _ _ _ _ _ _ _ c.self.view_is c.self.invariant;
}

pub loop-item-preserved : goal.loop-item-preserved
loop-item-preserved g c = record {
  counted = seen_more g.R.Item.bytes c.args.self.now c.loop-item.self c.update_item.new.self c.loop-item.yielded c.in-Some.item c.loop-item.invariant.counted c.in-Ok.ensures.counted;
  state = c.update_item.ensures.state;
}

pub returns-in_default-clause-counted : goal.returns-in_default-clause-counted
returns-in_default-clause-counted g c =
    let stop = seen_stop g.R.Item.bytes c.args.self.now c.loop-item.self c.update_item.new.self c.loop-item.yielded c.in-Some.item g.T.CountMinValue.greatest c.loop-item.invariant.counted c.loop-item.invariant.state.fits
    (search rules) (search rules) in (
      c.into_iter-item-iterator.result,
      c.loop-item.yielded ++ c.in-Some.item ∷ [],
      c.into_iter-item-iterator.ensures.into_iter_gives,
      record { counted = stop.0; stands = λ h. stands_all _ _ _ h stop.0; ended = (search rules, stop.1) },
      (c.next.new.self, yields_more g.U.IntoIter.Iterator.next_gives c.into_iter-item-iterator.result c.loop-item.yielded c.loop-item.item-iterator c.in-Some.item c.next.new.self (search rules) c.in-Some.ensures.steps),
    )

pub returns-clause-counted : goal.returns-clause-counted
returns-clause-counted g c =
    let all = seen_all g.R.Item.bytes c.args.self.now c.loop-item.self c.loop-item.yielded g.T.CountMinValue.greatest c.loop-item.invariant.counted c.loop-item.invariant.state.fits in
    (c.into_iter-item-iterator.result, c.loop-item.yielded, c.into_iter-item-iterator.ensures.into_iter_gives, record { counted = all.0; stands = λ h. stands_all _ _ _ h all.0; ended = all.1 }, search rules)
