use Rattle.std.proofs.Common.{◌+◌, ◌<◌, length, sym, ◌∙◌, arith}
use Rattle.std.proofs.lemmas.List.{take-append-drop}
use Rattle.sketch_base.proofs.SplitLines.{positive}
use Rattle.sketch_text.proofs.CsvRecords.{last_record, first_record}
use Rattle.sketch_text.proofs.Tails.{end_of}
use Rattle.sketch_text.proofs.csv_records.next_csv_record.Goals as goal

pub returns-then-at-bytes-clause-taken : goal.returns-then-at-bytes-clause-taken
returns-then-at-bytes-clause-taken c =
    let some : 0 < length c.args.bytes.now = positive _ (sym c.is_empty.ensures ∙ c.if-is_empty.false) in
    last_record c.args.delimiter c.args.bytes.now c.split_at.result.0.now c.split_at.result.1.now c.next_end-at.result some c.next_end-at.ensures.end c.if-at-bytes.true c.split_at.ensures.front c.split_at.ensures.back

pub returns-clause-taken : goal.returns-clause-taken
returns-clause-taken c =
    let less : c.next_end-at.result < length c.args.bytes.now = omega (arith, c.if-at-bytes.false, c.next_end-at.ensures.bound) in
    first_record c.args.delimiter c.args.bytes.now c.split_at-2.result.0.now c.split_at-3.result.0.now c.without_carriage_return.result.now c.split_at-2.result.1.now c.next_end-at.result
    c.next_end-at.ensures.end less c.split_at-2.ensures.front c.split_at-2.ensures.back c.split_at-3.ensures.front c.without_carriage_return.ensures

-- what is taken and what is left are the bytes
pub returns-then-at-bytes-clause-whole : goal.returns-then-at-bytes-clause-whole
returns-then-at-bytes-clause-whole c =
    rw (c.split_at.ensures.front, c.split_at.ensures.back) (sym (take-append-drop c.next_end-at.result c.args.bytes.now))

pub returns-clause-whole : goal.returns-clause-whole
returns-clause-whole c =
    rw (c.split_at-2.ensures.front, c.split_at-2.ensures.back) (sym (take-append-drop (c.next_end-at.result + 1) c.args.bytes.now))

pub returns-then-at-bytes-clause-end : goal.returns-then-at-bytes-clause-end
returns-then-at-bytes-clause-end c = end_of c.args.bytes.now c.split_at.result.1.now c.next_end-at.result c.split_at.ensures.back

pub returns-clause-end : goal.returns-clause-end
returns-clause-end c = end_of c.args.bytes.now c.split_at-2.result.1.now _ c.split_at-2.ensures.back
