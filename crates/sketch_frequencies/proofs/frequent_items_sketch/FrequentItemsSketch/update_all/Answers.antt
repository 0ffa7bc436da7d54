use Rattle.std.proofs.Common.{subst}
use Rattle.sketch_frequencies.specs.State.{IsState}
use Rattle.sketch_frequencies.proofs.KeyedBatches.{added_none, added_more}
use Rattle.std.proofs.lemmas.Result.{err_from_is_err_and}
use Rattle.sketch_frequencies.proofs.KeyedBatches.{due_to_double}
use Rattle.sketch_frequencies.proofs.frequent_items_sketch.FrequentItemsSketch.update_all.Goals as goal

pub each-init : goal.each-init
each-init g c = record {
  added = added_none g.T.PartialEq.eq c.args.self.now (g.K.Keys.names c.args.keys);
  state = subst (λ s. IsState g.T.PartialEq.eq s) c.self.view_is c.self.invariant;
}

pub each-preserved : goal.each-preserved
each-preserved g c =
    let e = c.in_ok-update_item.ensures in
    record {
      added = added_more g.T.PartialEq.eq c.args.self.now c.each.self c.update_item.new.self (g.K.Keys.names c.args.keys) (g.K.Keys.names c.each.keys) (g.K.Keys.names c.next_key.new.self) (g.K.Key.ItemKey.names c.in-Some.key)
          (g.met.K.Key.ItemKey.respects_eq c.in-Some.key) c.each.invariant.added c.in-Some.ensures e.step e.stands e.budget;
      state = c.update_item.ensures.state;
    }

pub returns-in_err-update_item-clause-doubles : goal.returns-in_err-update_item-clause-doubles
returns-in_err-update_item-clause-doubles g c = λ free.
    let e = c.in_err-update_item.ensures in
    rw (err_from_is_err_and c.from_residual.result c.from_residual.ensures.1).1 (due_to_double c.each.self c.update_item.new.self e.err (e.infallible (free c.in-Some.key)))
