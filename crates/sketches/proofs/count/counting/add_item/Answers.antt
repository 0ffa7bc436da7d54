use Rattle.std.proofs.Common.{arith, ◌∷◌, []}
use Rattle.std.proofs.lemmas.Result.{err_from_is_err_and}
use Rattle.sketches.proofs.AddedItems.{one_added, one_failed}
use Rattle.sketches.proofs.count.counting.add_item.Goals as goal

pub returns-clause-added : goal.returns-clause-added
returns-clause-added c =
    let e = c.in_ok-update_item.ensures in
    one_added c.args.sketch.now c.update_item.new.self c.args.item.now e.step e.stands e.budget

pub returns-in_err-update_item-clause-failed : goal.returns-in_err-update_item-clause-failed
returns-in_err-update_item-clause-failed c =
    let e = err_from_is_err_and c.from_residual.result c.from_residual.ensures.1 in
    let f = c.in_err-update_item.ensures in
    rw (e.1, e.2) (one_failed c.args.sketch.now (c.args.item.now ∷ []) _ (omega arith) (λ full. let err = f.overflow full in cc) f.memory)
