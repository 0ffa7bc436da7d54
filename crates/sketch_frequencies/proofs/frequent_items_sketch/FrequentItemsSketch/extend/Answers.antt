use Rattle.std.proofs.Common.{rules, ◌++◌, ◌∷◌, []}
use Rattle.sketch_base.proofs.Yielded.{yields_more}
use Rattle.sketch_frequencies.proofs.KeyedBatches.{seen_more, seen_until}
use Rattle.sketch_frequencies.proofs.frequent_items_sketch.FrequentItemsSketch.extend.Goals as goal

pub loop-key-preserved : goal.loop-key-preserved
loop-key-preserved g c =
    let e = c.in_default.ensures in
    record {
      added = seen_more g.T.PartialEq.eq g.K.ItemKey.names c.args.self.now c.loop-key.self c.update_item.new.self c.loop-key.yielded c.in-Some.key (g.met.K.ItemKey.respects_eq c.in-Some.key) c.loop-key.invariant.added (search rules) (search rules) (search rules);
      state = c.update_item.ensures.state;
    }

pub returns-in-Err-clause-updates : goal.returns-in-Err-clause-updates
returns-in-Err-clause-updates g c = (
  c.into_iter-key-iterator.result,
  c.loop-key.yielded ++ c.in-Some.key ∷ [],
  c.into_iter-key-iterator.ensures.into_iter_gives,
  seen_until g.T.PartialEq.eq g.K.ItemKey.names c.args.self.now c.loop-key.self c.update_item.new.self c.loop-key.yielded c.in-Some.key c.in-Err.e c.loop-key.invariant.added (search rules) (search rules) (search rules),
  (c.next.new.self, yields_more g.U.IntoIter.Iterator.next_gives c.into_iter-key-iterator.result c.loop-key.yielded c.loop-key.key-iterator c.in-Some.key c.next.new.self (search rules) c.in-Some.ensures.steps),
)

pub returns-clause-updates : goal.returns-clause-updates
returns-clause-updates g c = (c.into_iter-key-iterator.result, c.loop-key.yielded, c.into_iter-key-iterator.ensures.into_iter_gives, c.loop-key.invariant.added, search rules)
