use Rattle.datasketches.proofs.Keyed.{accepted, rejected}
use Rattle.datasketches.proofs.sketch.Sketch.add_by_key.Goals as goal

pub returns-in_err-update_item_with_count-in-Frequent-clause-added : goal.returns-in_err-update_item_with_count-in-Frequent-clause-added
returns-in_err-update_item_with_count-in-Frequent-clause-added g c = λ x is.
    let e = c.in_err-update_item_with_count-in-Frequent.ensures in
    rw c.in-Frequent.is
    (rejected g.T.PartialEq.eq g.T.Hash.hash_input (g.K.ItemKey.names c.args.item) x c.args.weight _ _ _ _ is c.from_residual.ensures.1 e.zero e.overflow e.memory e.succeeds e.err)

pub returns-in_ok-update_item_with_count-in-Frequent-clause-added : goal.returns-in_ok-update_item_with_count-in-Frequent-clause-added
returns-in_ok-update_item_with_count-in-Frequent-clause-added g c = λ x is.
    let e = c.in_ok-update_item_with_count-in-Frequent.ensures in
    rw c.in-Frequent.is (accepted g.T.PartialEq.eq g.T.Hash.hash_input (g.K.ItemKey.names c.args.item) x c.args.weight _ _ is e.zero e.step e.overflow)
