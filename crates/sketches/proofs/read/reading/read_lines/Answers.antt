use Rattle.std.proofs.Common.{ℕ, ◌+◌, ◌≤◌, Err, inl, inr, ⊎_elim, true, false, List, length, take, ap, arith, refl, ◌∙◌, length-take-le, sym}
use Rattle.std.proofs.lemmas.List.{length-take}
use Rattle.std.proofs.lemmas.Result.{err_from_is_err_and}
use Rattle.std.specs.declared.io.Error.{Error}
use Rattle.sketches.proofs.ReadLines.{all_fit, one_start, place_start, taken_none, too_long, taken_more, taken_lines, taken_last, taken_failed, taken_kept, taken_stopped, fails_last, fails_lines, filled, none_more}
use Rattle.sketches.proofs.read.reading.read_lines.Goals as goal

pub returns-in_err-make_room-clause-failed : goal.returns-in_err-make_room-clause-failed
returns-in_err-make_room-clause-failed g c =
    let e = err_from_is_err_and c.from_residual.result c.from_residual.ensures.1 in
    let f = c.in_err-make_room.ensures in
    rw (e.1, e.2)
    (inl (
      ⊎_elim (λ memory. inl memory)
          (λ long.
          let (full, le) = f.too_long.0 (ap Err long) in
          let len = length-take-le c.reads.held c.reads.buffer.items c.reads.invariant.0 in
          inr (long, rw (← c.records-records.ensures) (too_long c.records-records.result c.args.limit g.S.LineSink.takes (g.R.LineSource.remaining c.args.reader.now) (g.R.LineSource.remaining c.reads.reader) (c.args.sink.now, c.args.output.now) (c.reads.sink, c.reads.output) (take c.reads.held c.reads.buffer.items) c.reads.invariant.4 (omega (arith, le, len)) c.reads.invariant.1)))
          f.failed,
      rw (← c.records-records.ensures) (taken_stopped c.records-records.result c.args.limit g.S.LineSink.takes (g.R.LineSource.remaining c.args.reader.now) (g.R.LineSource.remaining c.reads.reader) (c.args.sink.now, c.args.output.now) (c.reads.sink, c.reads.output) _ c.reads.invariant.4),
    ))

pub returns-in-Err-clause-taken : goal.returns-in-Err-clause-taken
returns-in-Err-clause-taken g c =
    let f = c.in-Err.ensures.filled.2 in
    rw (← c.records-records.ensures)
    (taken_failed c.records-records.result c.args.limit g.S.LineSink.takes (g.R.LineSource.remaining c.args.reader.now) (g.R.LineSource.remaining c.reads.reader) (g.R.LineSource.remaining c.fill.new.reader) (g.R.LineSource.fails c.args.reader.now) (g.R.LineSource.fails c.reads.reader)
    (c.args.sink.now, c.args.output.now) (c.reads.sink, c.reads.output) _ c.in-Err.e c.reads.invariant.4 c.reads.invariant.1 f.0 c.reads.invariant.6 f.1)

pub returns-in-Err-clause-fits : goal.returns-in-Err-clause-fits
returns-in-Err-clause-fits g c =
    let f = c.in-Err.ensures.filled.2 in
    let room = c.in_ok-make_room.ensures.limit c.reads.invariant.5 in
    let kept = taken_kept c.records-records.result c.args.limit g.S.LineSink.takes (g.R.LineSource.remaining c.args.reader.now) (g.R.LineSource.remaining c.reads.reader) (g.R.LineSource.remaining c.fill.new.reader) (c.args.sink.now, c.args.output.now) (c.reads.sink, c.reads.output) (take c.reads.held c.reads.buffer.items) c.reads.invariant.4 f.0 in
    rw (← c.records-records.ensures)
    (all_fit c.records-records.result c.args.limit g.S.LineSink.takes (g.R.LineSource.remaining c.args.reader.now) (g.R.LineSource.remaining c.fill.new.reader) (g.R.LineSource.fails c.reads.reader) true (c.args.sink.now, c.args.output.now) (c.reads.sink, c.reads.output) (take c.reads.held c.reads.buffer.items) kept f.1
    (omega (arith, c.in_ok-make_room.ensures.room, room, length-take-le c.reads.held c.reads.buffer.items c.reads.invariant.0)))

pub returns-in_err-take-clause-failed : goal.returns-in_err-take-clause-failed
returns-in_err-take-clause-failed g c =
    let e = err_from_is_err_and c.from_residual-in_err-take.result c.from_residual-in_err-take.ensures.1 in
    let f = c.in-Ok.ensures.filled in
    let got = rw c.in-Some.is at f.2 in
    let same = f.1 ∙ c.in_ok-make_room.ensures.kept in
    let all = taken_more c.records-records.result c.args.limit g.S.LineSink.takes _ _ _ _ _ _ _ _ c.reads.invariant.4 got.1 (filled c.reads.held c.in-Some.count _ _ c.reads.invariant.0 same) in
    rw (e.1, e.2)
    (inr
    (fails_last c.records-records.result c.args.limit g.S.LineSink.takes (λ s. g.S.LineSink.splits s.0) g.S.LineSink.fails g.met.S.LineSink.fails_later _ _ (g.R.LineSource.fails c.reads.reader) false _ (c.reads.sink, c.reads.output) _ _ (take c.reads.held c.fill.new.buffer.items) _ (sym c.records-records.ensures) all
    (none_more c.reads.held c.in-Some.count _ c.if-count-eq0.true) (got.2 c.if-count-eq0.true) (rw c.deref.ensures.value at c.in_err-take.ensures.failed)))

pub returns-in_err-kept-clause-failed : goal.returns-in_err-kept-clause-failed
returns-in_err-kept-clause-failed g c =
    let e = err_from_is_err_and c.from_residual-in_err-kept.result c.from_residual-in_err-kept.ensures.1 in
    let f = c.in-Ok.ensures.filled in
    let got = rw c.in-Some.is at f.2 in
    let same = f.1 ∙ c.in_ok-make_room.ensures.kept in
    let all = taken_more c.records-records.result c.args.limit g.S.LineSink.takes _ _ _ _ _ _ _ _ c.reads.invariant.4 got.1 (filled c.reads.held c.in-Some.count _ _ c.reads.invariant.0 same) in
    rw (e.1, e.2)
    (inr
    (fails_lines c.records-records.result c.args.limit g.S.LineSink.takes (λ s. g.S.LineSink.splits s.0) g.S.LineSink.fails g.met.S.LineSink.fails_later g.met.S.LineSink.fails_sooner _ _ _ (c.reads.sink, c.reads.output) _ _ _ (sym c.records-records.ensures) c.reads.invariant.3 all c.in_err-kept.ensures.failed))

pub returns-then-count-eq0 : goal.returns-then-count-eq0
returns-then-count-eq0 g c =
    let f = c.in-Ok.ensures.filled in
    let got = rw c.in-Some.is at f.2 in
    let same = f.1 ∙ c.in_ok-make_room.ensures.kept in
    let all = taken_more c.records-records.result c.args.limit g.S.LineSink.takes _ _ _ _ _ _ _ _ c.reads.invariant.4 got.1 (filled c.reads.held c.in-Some.count _ _ c.reads.invariant.0 same) in
    record {
      taken =
          rw (← c.records-records.ensures)
          (taken_last c.records-records.result c.args.limit g.S.LineSink.takes (λ s. g.S.LineSink.splits s.0) g.met.S.LineSink.takes_both Error _ _ (g.R.LineSource.fails c.args.reader.now) (g.R.LineSource.fails c.reads.reader) _ (c.reads.sink, c.reads.output) (c.take.new.self, c.take.new.output) _ (take c.reads.held c.fill.new.buffer.items)
          (sym c.records-records.ensures) all (none_more c.reads.held c.in-Some.count _ c.if-count-eq0.true) c.reads.invariant.6 (got.2 c.if-count-eq0.true) (rw c.deref.ensures.value at c.in_ok-take.ensures.taken));
      fits =
          let room = c.in_ok-make_room.ensures.limit c.reads.invariant.5 in
          rw (← c.records-records.ensures)
          (all_fit c.records-records.result c.args.limit g.S.LineSink.takes (g.R.LineSource.remaining c.args.reader.now) (g.R.LineSource.remaining c.fill.new.reader) (g.R.LineSource.fails c.reads.reader) false (c.args.sink.now, c.args.output.now) (c.reads.sink, c.reads.output) _ all (got.2 c.if-count-eq0.true)
          (omega (arith, c.in_ok-make_room.ensures.room, room, c.if-count-eq0.true, length-take-le (c.reads.held + c.in-Some.count) c.fill.new.buffer.items got.0)));
      same = g.met.S.LineSink.takes_same _ _ _ c.in_ok-take.ensures.taken ∙ (c.reads.invariant.3 ∙ c.records-records.ensures);
      failed = tt;
    }

pub reads-init : goal.reads-init
reads-init g c = (
  omega arith,
  one_start c.records-records.result,
  place_start c.records-records.result,
  sym c.records-records.ensures,
  taken_none c.records-records.result c.args.limit g.S.LineSink.takes g.met.S.LineSink.takes_none (g.R.LineSource.remaining c.args.reader.now) (c.args.sink.now, c.args.output.now),
  let len = ap (λ (l : List ℕ). length l) c.truncate.ensures.items in omega (arith, len, length-take c.args.limit c.args.buffer.now.items),
  refl,
)

pub reads-preserved : goal.reads-preserved
reads-preserved g c =
    let room = c.in_ok-make_room.ensures.limit c.reads.invariant.5 in
    let len = c.in-Ok.ensures.filled.0 in
    let t = c.in_ok-kept.ensures.taken in
    let f = c.in-Ok.ensures.filled in
    let got = rw c.in-Some.is at f.2 in
    let same = f.1 ∙ c.in_ok-make_room.ensures.kept in
    let few : length (take (c.reads.held + c.in-Some.count) c.fill.new.buffer.items) ≤ c.args.limit = omega (arith, got.0, len, room, length-take-le (c.reads.held + c.in-Some.count) c.fill.new.buffer.items got.0) in
    let all = taken_more c.records-records.result c.args.limit g.S.LineSink.takes _ _ _ _ _ _ _ _ c.reads.invariant.4 got.1 (filled c.reads.held c.in-Some.count _ _ c.reads.invariant.0 same) in (
      t.within,
      t.rest,
      t.place_is,
      g.met.S.LineSink.takes_same _ _ _ t.change ∙ c.reads.invariant.3,
      taken_lines c.records-records.result c.args.limit g.S.LineSink.takes (λ s. g.S.LineSink.splits s.0) g.met.S.LineSink.takes_both _ _ _ (c.reads.sink, c.reads.output) _ _ _ _ _ (sym c.records-records.ensures) few all t,
      omega (arith, c.in_ok-kept.ensures.same, len, room),
      c.in-Ok.ensures.same ∙ c.reads.invariant.6,
    )

pub returns-clause-failed : goal.returns-clause-failed
returns-clause-failed g c =
    inl (
      inl refl,
      rw (← c.records-records.ensures) (taken_stopped c.records-records.result c.args.limit g.S.LineSink.takes (g.R.LineSource.remaining c.args.reader.now) (g.R.LineSource.remaining c.reads.reader) (c.args.sink.now, c.args.output.now) (c.reads.sink, c.reads.output) _ c.reads.invariant.4),
    )

pub returns-in-Err-clause-same : goal.returns-in-Err-clause-same
returns-in-Err-clause-same g c = c.reads.invariant.3 ∙ c.records-records.ensures
