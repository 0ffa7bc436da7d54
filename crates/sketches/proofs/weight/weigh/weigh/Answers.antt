use Rattle.std.proofs.Common.{ap, arith, inr, refl}
use Rattle.std.proofs.lemmas.Result.{err_from_is_err_and}
use Rattle.sketch_countmin.specs.State.{CountState}
use Rattle.sketches.proofs.KeyWeights.{keys_failed, some_weights, total_written, weigh_failed, weights_written, writing_failed}
use Rattle.sketches.proofs.weight.weigh.weigh.Goals as goal

pub returns-in_err-complete-clause-failed : goal.returns-in_err-complete-clause-failed
returns-in_err-complete-clause-failed g c =
    let e = err_from_is_err_and c.from_residual-in_err-complete.result c.from_residual-in_err-complete.ensures.1 in
    let empty = ap (λ (s : CountState). s.total) c.in_ok-sketch.ensures.made.is in
    rw (e.1, e.2) (weigh_failed c.args.options (g.I.Inputs.inputs c.args.inputs.now) (g.R.LineSource.remaining c.args.keys.now) _ (record { sketch = c.in_ok-sketch.sketch; chosen = c.args.options.chosen; count = 0; unweighed = 0 }, tt) (c.read_inputs.new.sink, tt) _ empty refl c.in_err-complete.ensures.failed)

pub returns-clause-written : goal.returns-clause-written
returns-clause-written g c =
    weights_written g.W.Output.contents c.args.options (g.I.Inputs.inputs c.args.inputs.now) (g.R.LineSource.remaining c.args.keys.now) (g.R.LineSource.fails c.args.keys.now) (g.I.Inputs.fails c.args.inputs.now) c.in_ok-complete.complete c.in_ok-failure.failure
    c.in_ok-sketch.sketch (record { sketch = c.in_ok-sketch.sketch; chosen = c.args.options.chosen; count = 0; unweighed = 0 }, tt) (c.read_inputs.new.sink, c.read_inputs.new.output) c.total_weight.result c.records_unweighed-unweighed.result (g.W.Output.contents c.args.writer.now)
    (record { sketch = c.read_inputs.new.sink.sketch; part = c.args.options.keys_part; style = c.args.options.style; written = c.new.result; number = c.new-2.result }, c.write_total.new.writer) (c.read_lines.new.sink, c.read_lines.new.output)
    c.in_ok-sketch.ensures.made refl refl refl c.records_unweighed-unweighed.ensures (omega arith) c.in_ok-complete.ensures.taken c.total_weight.ensures c.in_ok-write_total.ensures.written refl refl refl c.in_ok-failure.ensures.taken

pub returns-in_err-write_total-clause-failed : goal.returns-in_err-write_total-clause-failed
returns-in_err-write_total-clause-failed g c =
    let e = err_from_is_err_and c.from_residual-in_err-write_total.result c.from_residual-in_err-write_total.ensures.1 in
    let late = writing_failed c.args.options (g.I.Inputs.inputs c.args.inputs.now) (g.R.LineSource.remaining c.args.keys.now) (g.W.Output.failure c.write_total.new.writer) _ c.in_err-write_total.ensures.failed in
    rw (e.1, e.2) late.fails

pub returns-in_err-write_total-clause-unwritten : goal.returns-in_err-write_total-clause-unwritten
returns-in_err-write_total-clause-unwritten g c =
    let e = err_from_is_err_and c.from_residual-in_err-write_total.result c.from_residual-in_err-write_total.ensures.1 in
    let late = writing_failed c.args.options (g.I.Inputs.inputs c.args.inputs.now) (g.R.LineSource.remaining c.args.keys.now) (g.W.Output.failure c.write_total.new.writer) _ c.in_err-write_total.ensures.failed in
    rw (e.1, e.2)
    (inr (
      late.late,
      total_written g.W.Output.contents c.args.options (g.I.Inputs.inputs c.args.inputs.now) (g.R.LineSource.remaining c.args.keys.now) (g.I.Inputs.fails c.args.inputs.now) c.in_ok-complete.complete c.in_ok-sketch.sketch (record { sketch = c.in_ok-sketch.sketch; chosen = c.args.options.chosen; count = 0; unweighed = 0 }, tt) (c.read_inputs.new.sink, c.read_inputs.new.output)
          c.total_weight.result (g.W.Output.contents c.args.writer.now) (g.W.Output.contents c.write_total.new.writer) c.in_ok-sketch.ensures.made refl refl c.in_ok-complete.ensures.taken c.total_weight.ensures c.in_err-write_total.ensures.front,
    ))

pub returns-in_err-failure-clause-failed : goal.returns-in_err-failure-clause-failed
returns-in_err-failure-clause-failed g c =
    let e = err_from_is_err_and c.from_residual-in_err-failure.result c.from_residual-in_err-failure.ensures.1 in
    let late = keys_failed g.W.Output.contents g.W.Output.failure c.args.options (g.I.Inputs.inputs c.args.inputs.now) (g.R.LineSource.remaining c.args.keys.now) (record { sketch = c.read_inputs.new.sink.sketch; part = c.args.options.keys_part; style = c.args.options.style; written = c.new.result; number = c.new-2.result }, c.write_total.new.writer) (c.read_lines.new.sink, c.read_lines.new.output) _ c.in_err-failure.ensures.failed in
    rw (e.1, e.2) late.fails

pub returns-in_err-failure-clause-unwritten : goal.returns-in_err-failure-clause-unwritten
returns-in_err-failure-clause-unwritten g c =
    let e = err_from_is_err_and c.from_residual-in_err-failure.result c.from_residual-in_err-failure.ensures.1 in
    let late = keys_failed g.W.Output.contents g.W.Output.failure c.args.options (g.I.Inputs.inputs c.args.inputs.now) (g.R.LineSource.remaining c.args.keys.now) (record { sketch = c.read_inputs.new.sink.sketch; part = c.args.options.keys_part; style = c.args.options.style; written = c.new.result; number = c.new-2.result }, c.write_total.new.writer) (c.read_lines.new.sink, c.read_lines.new.output) _ c.in_err-failure.ensures.failed in
    rw (e.1, e.2)
    (inr (
      late.late,
      some_weights g.W.Output.contents g.W.Output.failure c.args.options (g.I.Inputs.inputs c.args.inputs.now) (g.R.LineSource.remaining c.args.keys.now) (g.I.Inputs.fails c.args.inputs.now) c.in_ok-complete.complete c.in_ok-sketch.sketch (record { sketch = c.in_ok-sketch.sketch; chosen = c.args.options.chosen; count = 0; unweighed = 0 }, tt) (c.read_inputs.new.sink, c.read_inputs.new.output)
          c.total_weight.result (g.W.Output.contents c.args.writer.now) (record { sketch = c.read_inputs.new.sink.sketch; part = c.args.options.keys_part; style = c.args.options.style; written = c.new.result; number = c.new-2.result }, c.write_total.new.writer) (c.read_lines.new.sink, c.read_lines.new.output) _ c.in_ok-sketch.ensures.made refl refl c.in_ok-complete.ensures.taken c.total_weight.ensures c.in_ok-write_total.ensures.written refl refl refl c.in_err-failure.ensures.failed,
    ))
