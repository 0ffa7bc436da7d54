use Rattle.std.proofs.Common.{◌≤◌, ◌≡◌, ◌+◌, ◌-◌, length, take, drop, arith, sym}
use Rattle.std.proofs.lemmas.List.{take-take, length-take}
use Rattle.std.proofs.lemmas.Result.{err_from_is_err_and}
use Rattle.sketches.specs.Reading.{IsBehindEnd, place_of}
use Rattle.sketches.proofs.ReadLines.{lines_nothing, lines_some, fails_some, one_record, held_place}
use Rattle.sketches.proofs.read.reading.take_records.Goals as goal

pub returns-then-last-eq0-clause-taken : goal.returns-then-last-eq0-clause-taken
returns-then-last-eq0-clause-taken g c =
    let items = c.args.buffer.now.items in
    let held = c.args.held in
    let end = c.args.end in
    let last : IsBehindEnd c.args.records c.args.place (take (end - held) (drop held items)) c.finished_records-last.result.0 = rw c.deref.ensures.value at c.finished_records-last.ensures.last in
    let next : c.finished_records-last.result.1 ≡ place_of c.args.records c.args.place (take (end - held) (drop held items)) = rw c.deref.ensures.value at c.finished_records-last.ensures.place in
    lines_nothing c.args.records g.S.LineSink.takes g.met.S.LineSink.takes_none (c.args.sink.now, c.args.output.now) items end c.finished_records-last.result.1 c.requires.end
    (one_record c.args.records items held c.finished_records-last.result.0 end c.args.place c.requires.held c.requires.one c.requires.place c.if-last-eq0.true last)
    (held_place c.args.records items held end c.args.place c.finished_records-last.result.1 c.requires.held c.requires.place next)

pub returns-in_err-take-clause-failed : goal.returns-in_err-take-clause-failed
returns-in_err-take-clause-failed g c =
    let e = err_from_is_err_and c.from_residual.result c.from_residual.ensures.1 in
    let items = c.args.buffer.now.items in
    let held = c.args.held in
    let end = c.args.end in
    let at = c.finished_records-last.result.0 in
    let last : IsBehindEnd c.args.records c.args.place (take (end - held) (drop held items)) at = rw c.deref.ensures.value at c.finished_records-last.ensures.last in
    let bound : at ≤ length (take (end - held) (drop held items)) = rw c.deref.ensures.value at c.finished_records-last.ensures.bound in
    let le : at ≤ end - held = omega (arith, bound, length-take (end - held) (drop held items)) in
    let front : take (held + at) items ≡ take (held + at) (take end items) = sym (take-take (held + at) end items (omega (arith, le, c.requires.held))) in
    let failed = rw (c.deref-2.ensures.value, front) at c.in_err-take.ensures.failed in
    rw (e.1, e.2) (fails_some c.args.records g.S.LineSink.fails (c.args.sink.now, c.args.output.now) (c.take.new.self, c.take.new.output) items held at end c.args.place _ c.requires.held (omega (arith, c.if-last-eq0.false)) le c.requires.end c.requires.place last failed)

pub returns-clause-taken : goal.returns-clause-taken
returns-clause-taken g c =
    let items = c.args.buffer.now.items in
    let held = c.args.held in
    let end = c.args.end in
    let at = c.finished_records-last.result.0 in
    let last : IsBehindEnd c.args.records c.args.place (take (end - held) (drop held items)) at = rw c.deref.ensures.value at c.finished_records-last.ensures.last in
    let next : c.finished_records-last.result.1 ≡ place_of c.args.records c.args.place (take (end - held) (drop held items)) = rw c.deref.ensures.value at c.finished_records-last.ensures.place in
    let bound : at ≤ length (take (end - held) (drop held items)) = rw c.deref.ensures.value at c.finished_records-last.ensures.bound in
    let le : at ≤ end - held = omega (arith, bound, length-take (end - held) (drop held items)) in
    let front : take (held + at) items ≡ take (held + at) (take end items) = sym (take-take (held + at) end items (omega (arith, le, c.requires.held))) in
    let taken = rw (c.deref-2.ensures.value, front) at c.in_ok-take.ensures.taken in
    lines_some c.args.records g.S.LineSink.takes (c.args.sink.now, c.args.output.now) (c.take.new.self, c.take.new.output) items c.copy_within.new.self.items held at end c.args.place c.finished_records-last.result.1
    c.requires.held (omega (arith, c.if-last-eq0.false)) le c.requires.end c.requires.place last next taken c.copy_within.ensures.items (omega (arith, c.copy_within.ensures.len, c.copy_within.new.self.ok.0, c.args.buffer.now.ok.0))
