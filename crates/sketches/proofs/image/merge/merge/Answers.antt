use Rattle.std.proofs.lemmas.Result.{err_from_is_err_and}
use Rattle.sketches.specs.Images.{StopsMerge}
use Rattle.sketches.proofs.Merged.{some_ends_before}
use Rattle.sketches.proofs.Reported.{merge_error, merge_kept, merge_reported, merge_stopped}
use Rattle.sketches.proofs.image.merge.merge.Goals as goal

pub returns-in-Ok-write_all-clause-written : goal.returns-in-Ok-write_all-clause-written
returns-in-Ok-write_all-clause-written g c =
    merge_reported c.args.options (g.I.Images.images c.args.images.now) c.in_ok-sketch.sketch (g.W.Output.contents c.args.writer.now) (g.W.Output.contents c.write_all.new.self) c.in-Some.text.items
    c.in_ok-sketch.ensures.merged (rw c.in-Some.is at c.in-Ok.ensures.shown) (rw c.deref.ensures.value at c.in-Ok-write_all.ensures.written)

pub returns-in-Ok-write_all-clause-kept : goal.returns-in-Ok-write_all-clause-kept
returns-in-Ok-write_all-clause-kept g c =
    merge_kept c.args.options.images.max_bytes (g.I.Images.images c.args.images.now) (g.K.Keeper.kept c.keep.new.self) c.in_ok-sketch.sketch c.in_ok-sketch.ensures.merged c.keep.ensures

pub returns-in_err-sketch-clause-err : goal.returns-in_err-sketch-clause-err
returns-in_err-sketch-clause-err g c =
    let e = err_from_is_err_and c.from_residual.result c.from_residual.ensures.1 in
    rw (e.1, e.2) (some_ends_before c.args.options.images.max_bytes (g.I.Images.images c.args.images.now) (λ all. StopsMerge c.args.options all (g.K.Keeper.kept c.args.keeper.now) (g.W.Output.failure c.args.writer.now) (g.W.Output.contents c.args.writer.now) (g.W.Output.contents c.args.writer.now)) _ c.in_err-sketch.ensures.err)

pub returns-clause-err : goal.returns-clause-err
returns-clause-err g c =
    merge_stopped c.args.options (g.I.Images.images c.args.images.now) c.in_ok-sketch.sketch (g.K.Keeper.kept c.keep.new.self) (g.W.Output.failure c.write_all.new.self) (g.W.Output.contents c.args.writer.now) (g.W.Output.contents c.write_all.new.self) c.in-Err.error c.in-Some.text.items
    c.in_ok-sketch.ensures.merged c.in_ok-sketch.ensures.key c.keep.ensures (rw c.in-Some.is at c.in-Ok.ensures.shown) c.in-Err.ensures.failed (rw c.deref.ensures.value at c.in-Err.ensures.front)

pub returns-in_default-shown-clause-inexact_error : goal.returns-in_default-shown-clause-inexact_error
returns-in_default-shown-clause-inexact_error g c =
    merge_error c.args.options (g.I.Images.images c.args.images.now) c.in_ok-sketch.sketch c.maximum_error.result c.in_ok-sketch.ensures.merged c.maximum_error.ensures.value
