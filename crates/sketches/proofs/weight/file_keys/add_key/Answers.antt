use Rattle.std.proofs.Common.{ℕ, List, [], ◌∷◌, sym, subst}
use Rattle.std.proofs.lemmas.Result.{err_from_is_err_and}
use Rattle.sketches.proofs.TakenKeys.{key_taken}
use Rattle.sketches.specs.KeySums.{TakesKeys}
use Rattle.sketches.proofs.weight.file_keys.add_key.Goals as goal

pub returns-in_err-index-clause-failed : goal.returns-in_err-index-clause-failed
returns-in_err-index-clause-failed c =
    let e = err_from_is_err_and c.from_residual.result c.from_residual.ensures.1 in
    rw (e.1, e.2) (c.in_err-index.ensures.failed c.args.order.now.items)

pub returns-clause-taken : goal.returns-clause-taken
returns-clause-taken c =
    subst (λ (o : List ℕ). TakesKeys c.args.sums.now.entries c.args.order.now.items (c.args.key.now ∷ []) c.index_of.new.sums.entries o) (sym c.in_ok-push.ensures.items)
    (key_taken c.args.sums.now.entries c.index_of.new.sums.entries c.args.order.now.items c.args.key.now c.in_ok-index.index c.in_ok-index.ensures.found)
