use Rattle.std.proofs.Common.{refl}
use Rattle.std.proofs.lemmas.Result.{err_from_is_err_and}
use Rattle.sketches.proofs.SummedInputs.{inputs_summed, summing_failed}
use Rattle.sketches.proofs.weight.exact_weights.sums_of.Goals as goal

pub returns-in_err-complete-clause-failed : goal.returns-in_err-complete-clause-failed
returns-in_err-complete-clause-failed g c = λ write_error.
    let e = err_from_is_err_and c.from_residual.result c.from_residual.ensures.1 in
    rw (e.1, e.2) (summing_failed c.args.limit (g.I.Inputs.inputs c.args.inputs.now) write_error (record { sums = c.args.sums; total = 0; chosen = c.args.chosen; count = 0; unweighed = 0 }, tt) (c.read_inputs.new.sink, c.read_inputs.new.output) _ refl c.in_err-complete.ensures.failed)

pub returns-clause-summed : goal.returns-clause-summed
returns-clause-summed g c =
    inputs_summed (g.I.Inputs.inputs c.args.inputs.now) (g.I.Inputs.fails c.args.inputs.now) c.in_ok-complete.complete (record { sums = c.args.sums; total = 0; chosen = c.args.chosen; count = 0; unweighed = 0 }, tt) (c.read_inputs.new.sink, c.read_inputs.new.output) refl refl c.in_ok-complete.ensures.taken
