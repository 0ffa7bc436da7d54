use Rattle.std.proofs.Common.{arith, inr}
use Rattle.sketches.proofs.SummedInputs.{comes_late, exact_cut, exact_written}
use Rattle.sketches.proofs.weight.exact_weights.weigh_exactly.Goals as goal

pub returns-in-Err-sums_of-clause-failed : goal.returns-in-Err-sums_of-clause-failed
returns-in-Err-sums_of-clause-failed g c = c.in-Err-sums_of.ensures.failed (g.W.Output.failure c.args.writer.now)

pub returns-in-Ok-write_sums-clause-written : goal.returns-in-Ok-write_sums-clause-written
returns-in-Ok-write_sums-clause-written g c =
    exact_written c.args.options (g.R.LineSource.remaining c.args.keys.now) (g.I.Inputs.inputs c.args.inputs.now) (g.I.Inputs.fails c.args.inputs.now) c.in_ok-file.file.sums.entries c.in-Ok-sums_of.done.0.sums.entries c.in_ok-file.file.order.items c.in-Ok-sums_of.done.0.total c.in-Ok-sums_of.done.0.unweighed c.records_unweighed.result (g.W.Output.contents c.args.writer.now) (g.W.Output.contents c.write_sums.new.writer)
    c.in_ok-file.ensures.taken c.in-Ok-sums_of.ensures.summed c.records_unweighed.ensures (omega arith) (rw c.deref.ensures.value at c.in-Ok-write_sums.ensures.written)

pub returns-clause-unwritten : goal.returns-clause-unwritten
returns-clause-unwritten g c =
    inr (
      comes_late (g.W.Output.failure c.write_sums.new.writer) c.in-Err-write_sums.failure c.in-Err-write_sums.ensures.failed,
      exact_cut c.args.options (g.R.LineSource.remaining c.args.keys.now) (g.I.Inputs.inputs c.args.inputs.now) (g.I.Inputs.fails c.args.inputs.now) c.in_ok-file.file.sums.entries c.in-Ok-sums_of.done.0.sums.entries c.in_ok-file.file.order.items c.in-Ok-sums_of.done.0.total c.in-Ok-sums_of.done.0.unweighed (g.W.Output.contents c.args.writer.now) (g.W.Output.contents c.write_sums.new.writer)
          c.in_ok-file.ensures.taken c.in-Ok-sums_of.ensures.summed (rw c.deref.ensures.value at c.in-Err-write_sums.ensures.front),
    )

pub returns-in-Ok-write_sums-clause-few : goal.returns-in-Ok-write_sums-clause-few
returns-in-Ok-write_sums-clause-few g c = c.in_ok-file.ensures.few
