use Rattle.std.proofs.Common.{◌≡◌, length, drop, ap, arith, subst, ◌∙◌}
use Rattle.sketch_text.specs.Csv.{IsBehindLastEnd, IsFirstEnd}
use Rattle.sketch_text.specs.declared.place.Place.{Place}
use Rattle.sketch_text.proofs.CsvBoth.{csv_split, raw_csv_split}
use Rattle.sketch_text.proofs.CsvRecords.{done_none, done_more, done_last, last_place}
use Rattle.sketch_text.proofs.csv_records.finished_csv_records.Goals as goal

pub records-init : goal.records-init
records-init c = done_none c.args.delimiter c.args.place c.args.bytes.now

pub returns-then-end-rest-clause-last : goal.returns-then-end-rest-clause-last
returns-then-end-rest-clause-last c =
    let first : IsFirstEnd c.args.delimiter c.records.here (drop c.records.done c.args.bytes.now) c.next_end-end.result = rw c.split_at.ensures.back at c.next_end-end.ensures.end in
    let e : c.next_end-end.result ≡ length (drop c.records.done c.args.bytes.now) = c.if-end-rest.true ∙ ap length c.split_at.ensures.back in
    done_last c.args.delimiter c.args.place c.args.bytes.now c.records.done c.next_end-end.result c.records.here c.records.invariant first e

pub returns-then-end-rest-clause-place : goal.returns-then-end-rest-clause-place
returns-then-end-rest-clause-place c =
    let first : IsFirstEnd c.args.delimiter c.records.here (drop c.records.done c.args.bytes.now) c.next_end-end.result = rw c.split_at.ensures.back at c.next_end-end.ensures.end in
    let e : c.next_end-end.result ≡ length (drop c.records.done c.args.bytes.now) = c.if-end-rest.true ∙ ap length c.split_at.ensures.back in
    last_place c.args.delimiter c.args.place c.args.bytes.now c.records.done c.next_end-end.result c.first_cut-last.result.0 c.records.here c.first_cut-last.result.1 c.records.invariant first e
    (rw c.split_at.ensures.back at c.first_cut-last.ensures.cut) (rw c.split_at.ensures.back at c.first_cut-last.ensures.place)

pub records-preserved : goal.records-preserved
records-preserved c =
    let first : IsFirstEnd c.args.delimiter c.records.here (drop c.records.done c.args.bytes.now) c.next_end-end.result = rw c.split_at.ensures.back at c.next_end-end.ensures.end in
    done_more c.args.delimiter c.args.place c.args.bytes.now c.records.done c.next_end-end.result c.records.here c.records.invariant first
    (omega (arith, c.if-end-rest.false, c.next_end-end.ensures.bound, ap length c.split_at.ensures.back))

-- the records of the bytes and what follows them
pub returns-then-end-rest-clause-records : goal.returns-then-end-rest-clause-records
returns-then-end-rest-clause-records c = λ start. csv_split c.args.delimiter c.args.bytes.now c.records.done
    (subst (λ (p : Place). IsBehindLastEnd c.args.delimiter p c.args.bytes.now c.records.done) start (returns-then-end-rest-clause-last c))

pub returns-then-end-rest-clause-raw : goal.returns-then-end-rest-clause-raw
returns-then-end-rest-clause-raw c = λ start. raw_csv_split c.args.delimiter c.args.bytes.now c.records.done
    (subst (λ (p : Place). IsBehindLastEnd c.args.delimiter p c.args.bytes.now c.records.done) start (returns-then-end-rest-clause-last c))
