use Rattle.std.proofs.lemmas.Result.{err_from_is_err_and}
use Rattle.sketches.specs.KeyWeightLaws.{some_front, some_none}
use Rattle.sketches.specs.KeyWeights.{parts_in}
use Rattle.sketches.proofs.weight.key_weights.KeyWeightsLineSink.take.Goals as goal

pub returns-in_err-append_lines-clause-failed : goal.returns-in_err-append_lines-clause-failed
returns-in_err-append_lines-clause-failed g c =
    let e = err_from_is_err_and c.from_residual.result c.from_residual.ensures.1 in
    let s = c.args.self.now in
    rw (e.1, e.2) (tt, some_none s.style s.sketch (parts_in s.part c.args.bytes.now) (g.W.Output.contents c.args.output.now))

pub returns-in-Err-clause-failed : goal.returns-in-Err-clause-failed
returns-in-Err-clause-failed g c =
    let s = c.args.self.now in (
      c.in-Err.ensures.failed,
      some_front s.style s.sketch (parts_in s.part c.args.bytes.now) (g.W.Output.contents c.args.output.now) (g.W.Output.contents c.write_all.new.self) c.append_lines.new.written.items
          (rw c.clear.ensures.items at c.in_ok-append_lines.ensures) (rw c.deref.ensures.value at c.in-Err.ensures.front),
    )
