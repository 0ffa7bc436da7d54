use Rattle.std.proofs.lemmas.Result.{err_from_is_err_and}
use Rattle.sketch_base.specs.Split.{words_of}
use Rattle.sketches.proofs.AddedItems.{keys_added, keys_failed}
use Rattle.sketches.proofs.count.counting.add_words.Goals as goal

pub returns-clause-added : goal.returns-clause-added
returns-clause-added c = keys_added c.args.sketch.now c.update_all.new.self (words_of c.args.line.now) (rw c.new.ensures at c.in_ok-update_all.ensures.updates)

pub returns-in_err-update_all-clause-failed : goal.returns-in_err-update_all-clause-failed
returns-in_err-update_all-clause-failed c =
    let e = err_from_is_err_and c.from_residual.result c.from_residual.ensures.1 in
    rw (e.1, e.2) (keys_failed c.args.sketch.now c.update_all.new.self (words_of c.args.line.now) _ (rw c.new.ensures at c.in_err-update_all.ensures.err))
