use Rattle.std.proofs.Common.{ap, refl, arith, None, Some, inr}
use Rattle.std.proofs.lemmas.Result.{err_from_is_err_and}
use Rattle.sketches.specs.Added.{Sketch}
use Rattle.sketches.proofs.Counted.{counted, count_failed}
use Rattle.sketches.proofs.Reported.{error_of, items_kept, reported, reported_front}
use Rattle.sketches.proofs.count.top.top.Goals as goal

pub returns-in-Ok-clause-written : goal.returns-in-Ok-clause-written
returns-in-Ok-clause-written g c =
    let made = c.in_ok-sketch.ensures in
    let was = g.I.Inputs.inputs c.args.inputs.now in
    reported c.args.options was (g.I.Inputs.fails c.args.inputs.now) (record { complete = c.in_ok-complete.complete; not_utf8 = c.records_not_utf8-not_utf8.result; unweighed = c.records_unweighed-unweighed.result; inexact = None }) (g.W.Output.contents c.args.writer.now) (g.W.Output.contents c.write_all.new.self)
    c.in_ok-sketch.sketch c.read_inputs.new.sink.sketch c.in-Some.text.items made.stands made.budget made.ok
    (rw (c.records_not_utf8-not_utf8.ensures, c.records_unweighed-unweighed.ensures) (counted was (g.I.Inputs.fails c.args.inputs.now) c.in_ok-complete.complete _ (c.read_inputs.new.sink, tt) c.in_ok-complete.ensures.taken)) (omega arith, omega arith) (rw c.in-Some.is at c.in_ok-text.ensures.shown) (rw c.deref.ensures.value at c.in-Ok.ensures.written)

pub returns-clause-failed : goal.returns-clause-failed
returns-clause-failed g c =
    let made = c.in_ok-sketch.ensures in
    let was = g.I.Inputs.inputs c.args.inputs.now in
    let counts = counted was (g.I.Inputs.fails c.args.inputs.now) c.in_ok-complete.complete _ (c.read_inputs.new.sink, tt) c.in_ok-complete.ensures.taken in (
      c.in-Err.ensures.failed,
      reported_front c.args.options was (g.I.Inputs.fails c.args.inputs.now) (record { complete = c.in_ok-complete.complete; not_utf8 = c.records_not_utf8-not_utf8.result; unweighed = c.records_unweighed-unweighed.result; inexact = None }) (g.W.Output.contents c.args.writer.now) (g.W.Output.contents c.write_all.new.self)
          c.in_ok-sketch.sketch c.read_inputs.new.sink.sketch c.in-Some.text.items made.stands made.budget made.ok
          (rw (c.records_not_utf8-not_utf8.ensures, c.records_unweighed-unweighed.ensures) counts) (omega arith, omega arith) (rw c.in-Some.is at c.in_ok-text.ensures.shown) (rw c.deref.ensures.value at c.in-Err.ensures.front),
      items_kept c.args.options was (g.I.Inputs.fails c.args.inputs.now) (g.K.Keeper.kept c.keep.new.self) c.in_ok-sketch.sketch c.read_inputs.new.sink.sketch made.stands made.budget made.ok (0, 0) (c.read_inputs.new.sink.not_utf8, c.read_inputs.new.sink.unweighed) counts c.keep.ensures,
    )

pub returns-in-Ok-clause-kept : goal.returns-in-Ok-clause-kept
returns-in-Ok-clause-kept g c =
    let made = c.in_ok-sketch.ensures in
    let was = g.I.Inputs.inputs c.args.inputs.now in
    items_kept c.args.options was (g.I.Inputs.fails c.args.inputs.now) (g.K.Keeper.kept c.keep.new.self) c.in_ok-sketch.sketch c.read_inputs.new.sink.sketch made.stands made.budget made.ok (0, 0) (c.read_inputs.new.sink.not_utf8, c.read_inputs.new.sink.unweighed)
    (counted was (g.I.Inputs.fails c.args.inputs.now) c.in_ok-complete.complete _ (c.read_inputs.new.sink, tt) c.in_ok-complete.ensures.taken) c.keep.ensures

pub returns-in_default-clause-kept : goal.returns-in_default-clause-kept
returns-in_default-clause-kept g c =
    let made = c.in_ok-sketch.ensures in
    let was = g.I.Inputs.inputs c.args.inputs.now in
    items_kept c.args.options was (g.I.Inputs.fails c.args.inputs.now) (g.K.Keeper.kept c.keep.new.self) c.in_ok-sketch.sketch c.read_inputs.new.sink.sketch made.stands made.budget made.ok (0, 0) (c.read_inputs.new.sink.not_utf8, c.read_inputs.new.sink.unweighed)
    (counted was (g.I.Inputs.fails c.args.inputs.now) c.in_ok-complete.complete _ (c.read_inputs.new.sink, tt) c.in_ok-complete.ensures.taken) c.keep.ensures

pub returns-in_err-complete-clause-failed : goal.returns-in_err-complete-clause-failed
returns-in_err-complete-clause-failed g c =
    let e = err_from_is_err_and c.from_residual-in_err-complete.result c.from_residual-in_err-complete.ensures.1 in
    let empty = ap (λ (s : Sketch). s.total) c.in_ok-sketch.ensures.ok in
    rw (e.1, e.2) (count_failed c.args.options (g.I.Inputs.inputs c.args.inputs.now) _ (record { sketch = c.in_ok-sketch.sketch; weighing = c.args.options.weighing; count = 0; not_utf8 = 0; unweighed = 0 }, tt) (c.read_inputs.new.sink, tt) _ empty refl c.in_err-complete.ensures.failed)

pub returns-in_default-clause-inexact_error : goal.returns-in_default-clause-inexact_error
returns-in_default-clause-inexact_error g c =
    let made = c.in_ok-sketch.ensures in
    let was = g.I.Inputs.inputs c.args.inputs.now in
    error_of c.args.options was (g.I.Inputs.fails c.args.inputs.now) (record { complete = c.in_ok-complete.complete; not_utf8 = c.records_not_utf8-not_utf8.result; unweighed = c.records_unweighed-unweighed.result; inexact = Some c.maximum_error.result }) c.in_ok-sketch.sketch c.read_inputs.new.sink.sketch c.maximum_error.result made.ok
    (rw (c.records_not_utf8-not_utf8.ensures, c.records_unweighed-unweighed.ensures) (counted was (g.I.Inputs.fails c.args.inputs.now) c.in_ok-complete.complete _ (c.read_inputs.new.sink, tt) c.in_ok-complete.ensures.taken)) (omega arith, omega arith) c.maximum_error.ensures.value

pub returns-in_err-text-clause-unkept : goal.returns-in_err-text-clause-unkept
returns-in_err-text-clause-unkept g c =
    let e = err_from_is_err_and c.from_residual-in_err-text.result c.from_residual-in_err-text.ensures.1 in
    let made = c.in_ok-sketch.ensures in
    let was = g.I.Inputs.inputs c.args.inputs.now in
    let kept = items_kept c.args.options was (g.I.Inputs.fails c.args.inputs.now) (g.K.Keeper.kept c.keep.new.self) c.in_ok-sketch.sketch c.read_inputs.new.sink.sketch made.stands made.budget made.ok (0, 0) (c.read_inputs.new.sink.not_utf8, c.read_inputs.new.sink.unweighed)
    (counted was (g.I.Inputs.fails c.args.inputs.now) c.in_ok-complete.complete _ (c.read_inputs.new.sink, tt) c.in_ok-complete.ensures.taken) c.keep.ensures in
    rw (e.1, e.2, c.in_err-text.ensures.failed) (inr (tt, kept))

pub returns-clause-unkept : goal.returns-clause-unkept
returns-clause-unkept g c =
    let made = c.in_ok-sketch.ensures in
    let was = g.I.Inputs.inputs c.args.inputs.now in
    inr (
      tt,
      items_kept c.args.options was (g.I.Inputs.fails c.args.inputs.now) (g.K.Keeper.kept c.keep.new.self) c.in_ok-sketch.sketch c.read_inputs.new.sink.sketch made.stands made.budget made.ok (0, 0) (c.read_inputs.new.sink.not_utf8, c.read_inputs.new.sink.unweighed)
          (counted was (g.I.Inputs.fails c.args.inputs.now) c.in_ok-complete.complete _ (c.read_inputs.new.sink, tt) c.in_ok-complete.ensures.taken) c.keep.ensures,
    )
