use Rattle.std.proofs.Common.{inl, refl, subst, IfSome, ◌∙◌}
use Rattle.std.proofs.lemmas.Result.{err_from_is_err_and}
use Rattle.sketches.specs.Inputs.{FailsBegun, TakesBegun}
use Rattle.sketches.specs.Reading.{FailsInput, TakesInput}
use Rattle.sketch_text.specs.declared.records.Records.{Records}
use Rattle.sketches.proofs.LongRecords.{Fits}
use Rattle.sketches.proofs.ReadInputs.{inputs_none, inputs_more, inputs_all, inputs_fit, inputs_failed, inputs_stopped}
use Rattle.sketches.proofs.read.inputs.read_inputs.Goals as goal

pub each-init : goal.each-init
each-init g c = (inputs_none (g.S.LineSink.splits c.args.sink.now) c.args.limit (TakesBegun g.S.LineSink.begins g.S.LineSink.takes) (g.I.Inputs.inputs c.args.inputs.now) (g.I.Inputs.fails c.args.inputs.now) (c.args.sink.now, c.args.output.now), refl)

pub each-preserved : goal.each-preserved
each-preserved g c =
    let f : Records = g.S.LineSink.splits c.args.sink.now in
    let reader = c.in-Some.reader in
    let taken : TakesInput f (TakesBegun g.S.LineSink.begins g.S.LineSink.takes) (g.I.Reader.LineSource.remaining reader) (g.I.Reader.LineSource.fails reader) c.in_ok-failure.failure (c.each.sink, c.each.output) (c.read_input.new.sink, c.read_input.new.output) =
    subst (λ (r : Records). TakesInput r (TakesBegun g.S.LineSink.begins g.S.LineSink.takes) (g.I.Reader.LineSource.remaining reader) (g.I.Reader.LineSource.fails reader) c.in_ok-failure.failure (c.each.sink, c.each.output) (c.read_input.new.sink, c.read_input.new.output)) c.each.invariant.1 c.in_ok-failure.ensures.taken in
    let fits : IfSome (g.I.Reader.LineSource.remaining reader) (Fits f c.args.limit) =
    subst (λ (r : Records). IfSome (g.I.Reader.LineSource.remaining reader) (Fits r c.args.limit)) c.each.invariant.1 c.in_ok-failure.ensures.fits in (
      inputs_more f c.args.limit (TakesBegun g.S.LineSink.begins g.S.LineSink.takes) g.I.Reader.LineSource.remaining g.I.Reader.LineSource.fails c.each.complete c.is_complete-complete.result
          (g.I.Inputs.inputs c.args.inputs.now) (g.I.Inputs.inputs c.each.inputs) (g.I.Inputs.inputs c.next.new.self) (g.I.Inputs.inputs c.is_complete-complete.new.inputs)
          (g.I.Inputs.fails c.args.inputs.now) (g.I.Inputs.fails c.each.inputs) (g.I.Inputs.fails c.next.new.self) (g.I.Inputs.fails c.is_complete-complete.new.inputs)
          (c.args.sink.now, c.args.output.now) (c.each.sink, c.each.output) (c.read_input.new.sink, c.read_input.new.output) c.next.result reader c.in_ok-failure.failure
          c.each.invariant.0 c.next.ensures c.in-Some.is taken fits c.is_complete-complete.ensures.kept c.is_complete-complete.ensures.same c.is_complete-complete.ensures.whole,
      c.in_ok-failure.ensures.same ∙ c.each.invariant.1,
    )

pub returns-in_err-failure-clause-failed : goal.returns-in_err-failure-clause-failed
returns-in_err-failure-clause-failed g c =
    let e = err_from_is_err_and c.from_residual.result c.from_residual.ensures.1 in
    let f : Records = g.S.LineSink.splits c.args.sink.now in
    let failed = subst (λ (r : Records). FailsInput r (TakesBegun g.S.LineSink.begins g.S.LineSink.takes) g.S.LineSink.fails (FailsBegun g.S.LineSink.begins g.S.LineSink.fails) c.args.limit (g.I.Reader.LineSource.remaining c.in-Some.reader) (c.each.sink, c.each.output) (c.read_input.new.sink, c.read_input.new.output) c.in_err-failure.field-0.0) c.each.invariant.1 c.in_err-failure.ensures.failed in
    rw (e.1, e.2)
    (inputs_failed f c.args.limit (TakesBegun g.S.LineSink.begins g.S.LineSink.takes) g.S.LineSink.fails (FailsBegun g.S.LineSink.begins g.S.LineSink.fails) g.I.Reader.LineSource.remaining g.I.Reader.LineSource.fails c.each.complete
    (g.I.Inputs.inputs c.args.inputs.now) (g.I.Inputs.inputs c.each.inputs) (g.I.Inputs.inputs c.next.new.self)
    (g.I.Inputs.fails c.args.inputs.now) (g.I.Inputs.fails c.each.inputs) (g.I.Inputs.fails c.next.new.self)
    (c.args.sink.now, c.args.output.now) (c.each.sink, c.each.output) (c.read_input.new.sink, c.read_input.new.output) c.next.result c.in-Some.reader _
    c.each.invariant.0 c.next.ensures c.in-Some.is failed)

pub returns-clause-failed : goal.returns-clause-failed
returns-clause-failed g c =
    inl (inl refl, inputs_stopped (g.S.LineSink.splits c.args.sink.now) c.args.limit (TakesBegun g.S.LineSink.begins g.S.LineSink.takes) c.each.complete (g.I.Inputs.inputs c.args.inputs.now) (g.I.Inputs.inputs c.each.inputs) (g.I.Inputs.fails c.args.inputs.now) (g.I.Inputs.fails c.each.inputs) (c.args.sink.now, c.args.output.now) (c.each.sink, c.each.output) c.each.invariant.0)

pub returns-in_default-clause-taken : goal.returns-in_default-clause-taken
returns-in_default-clause-taken g c =
    inputs_all (g.S.LineSink.splits c.args.sink.now) c.args.limit (TakesBegun g.S.LineSink.begins g.S.LineSink.takes) g.I.Reader.LineSource.remaining g.I.Reader.LineSource.fails c.each.complete (g.I.Inputs.inputs c.args.inputs.now) (g.I.Inputs.inputs c.each.inputs) (g.I.Inputs.inputs c.next.new.self)
    (g.I.Inputs.fails c.args.inputs.now) (g.I.Inputs.fails c.each.inputs) (g.I.Inputs.fails c.next.new.self) (c.args.sink.now, c.args.output.now) (c.each.sink, c.each.output) c.next.result c.each.invariant.0 c.next.ensures c.in_default.is

pub returns-in_default-clause-fits : goal.returns-in_default-clause-fits
returns-in_default-clause-fits g c =
    inputs_fit (g.S.LineSink.splits c.args.sink.now) c.args.limit (TakesBegun g.S.LineSink.begins g.S.LineSink.takes) g.I.Reader.LineSource.remaining g.I.Reader.LineSource.fails c.each.complete (g.I.Inputs.inputs c.args.inputs.now) (g.I.Inputs.inputs c.each.inputs) (g.I.Inputs.inputs c.next.new.self)
    (g.I.Inputs.fails c.args.inputs.now) (g.I.Inputs.fails c.each.inputs) (g.I.Inputs.fails c.next.new.self) (c.args.sink.now, c.args.output.now) (c.each.sink, c.each.output) c.next.result c.each.invariant.0 c.next.ensures c.in_default.is
