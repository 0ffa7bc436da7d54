use Rattle.std.proofs.Common.{◌∙◌}
use Rattle.sketches.proofs.Begun.{begun_taken, begun_fits, begun_failed}
use Rattle.sketches.proofs.Results.{if_err, if_ok, on_ok}
use Rattle.sketches.proofs.read.inputs.read_input.Goals as goal

pub returns-clause-taken : goal.returns-clause-taken
returns-clause-taken g c =
    if_ok c.read_lines.result _ _
    (λ failure taken.
    begun_taken g.S.LineSink.splits g.S.LineSink.begins g.S.LineSink.takes c.args.sink.now c.begin.new.self c.args.output.now c.begin.ensures.same c.begin.ensures.began (g.R.LineSource.remaining c.args.reader.now) (g.R.LineSource.fails c.args.reader.now) failure _ taken)
    c.read_lines.ensures.taken

pub returns-clause-failed : goal.returns-clause-failed
returns-clause-failed g c =
    if_err c.read_lines.result _ _
    (begun_failed g.S.LineSink.splits g.S.LineSink.begins g.S.LineSink.takes c.args.sink.now c.begin.new.self c.args.output.now c.begin.ensures.same c.begin.ensures.began g.S.LineSink.fails c.args.limit (g.R.LineSource.remaining c.args.reader.now) (c.read_lines.new.sink, c.read_lines.new.output))
    c.read_lines.ensures.failed

pub returns-clause-same : goal.returns-clause-same
returns-clause-same g c = on_ok c.read_lines.result _ _ (λ kept. kept ∙ c.begin.ensures.same) c.read_lines.ensures.same

pub returns-clause-fits : goal.returns-clause-fits
returns-clause-fits g c =
    on_ok c.read_lines.result _ _
    (begun_fits g.S.LineSink.splits g.S.LineSink.begins g.S.LineSink.takes c.args.sink.now c.begin.new.self c.args.output.now c.begin.ensures.same c.begin.ensures.began c.args.limit (g.R.LineSource.remaining c.args.reader.now))
    c.read_lines.ensures.fits
