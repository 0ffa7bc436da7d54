use Rattle.std.proofs.Common.{◌+◌, ◌<◌, ◌∙◌, length, sym, arith}
use Rattle.std.proofs.lemmas.List.{take-append-drop}
use Rattle.sketch_base.proofs.SplitLines.{positive}
use Rattle.sketches.proofs.RawSplits.{last_raw, first_raw}
use Rattle.sketches.proofs.read.raw_lines.next_line_with_end.Goals as goal

pub returns-then-at-bytes-clause-taken : goal.returns-then-at-bytes-clause-taken
returns-then-at-bytes-clause-taken c =
    let some : 0 < length c.args.bytes.now = positive _ (sym c.is_empty.ensures ∙ c.if-is_empty.false) in
    last_raw c.args.bytes.now c.first_separator-at.result c.first_separator-at.ensures.value c.split_at.result.0.now c.split_at.result.1.now some c.if-at-bytes.true c.split_at.ensures.front c.split_at.ensures.back

pub returns-clause-taken : goal.returns-clause-taken
returns-clause-taken c =
    let less : c.first_separator-at.result < length c.args.bytes.now = omega (arith, c.if-at-bytes.false, c.first_separator-at.ensures.bound) in
    first_raw c.args.bytes.now c.first_separator-at.result c.first_separator-at.ensures.value c.split_at-2.result.0.now c.split_at-2.result.1.now c.split_at-3.result.0.now c.without_carriage_return.result.now
    less c.split_at-2.ensures.front c.split_at-2.ensures.back c.split_at-3.ensures.front c.without_carriage_return.ensures

-- what is taken and what is left are the bytes
pub returns-then-at-bytes-clause-whole : goal.returns-then-at-bytes-clause-whole
returns-then-at-bytes-clause-whole c =
    rw (c.split_at.ensures.front, c.split_at.ensures.back) (sym (take-append-drop c.first_separator-at.result c.args.bytes.now))

pub returns-clause-whole : goal.returns-clause-whole
returns-clause-whole c =
    rw (c.split_at-2.ensures.front, c.split_at-2.ensures.back) (sym (take-append-drop (c.first_separator-at.result + 1) c.args.bytes.now))
