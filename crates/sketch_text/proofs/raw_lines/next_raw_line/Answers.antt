use Rattle.std.proofs.Common.{◌<◌, ◌∙◌, length, sym}
use Rattle.std.proofs.lemmas.Bool.{eqb-true}
use Rattle.sketch_base.proofs.SplitLines.{last_line, first_line, positive}
use Rattle.sketch_text.proofs.Tails.{end_of, end_after}
use Rattle.sketch_text.proofs.raw_lines.next_raw_line.Goals as goal

pub returns-then-is_empty-2-clause-taken : goal.returns-then-is_empty-2-clause-taken
returns-then-is_empty-2-clause-taken c =
    let some : 0 < length c.args.bytes.now = positive _ (sym c.is_empty.ensures ∙ c.if-is_empty.false) in
    last_line c.args.bytes.now c.split_at.result.0.now c.split_at.result.1.now c.first_separator.result c.first_separator.ensures.value c.split_at.ensures.front c.split_at.ensures.back some (eqb-true _ 0 (sym c.is_empty-2.ensures ∙ c.if-is_empty-2.true))

pub returns-clause-taken : goal.returns-clause-taken
returns-clause-taken c =
    first_line c.args.bytes.now c.split_at.result.0.now c.split_at.result.1.now c.first_separator.result c.first_separator.ensures.value c.split_at.ensures.front c.split_at.ensures.back
    (positive _ (sym c.is_empty-2.ensures ∙ c.if-is_empty-2.false)) c.without_carriage_return.result.now c.split_at-2.result.1.now c.without_carriage_return.ensures c.split_at-2.ensures.back

pub returns-then-is_empty-2-clause-end : goal.returns-then-is_empty-2-clause-end
returns-then-is_empty-2-clause-end c = end_of c.args.bytes.now c.split_at.result.1.now c.first_separator.result c.split_at.ensures.back

pub returns-clause-end : goal.returns-clause-end
returns-clause-end c = end_after c.args.bytes.now c.split_at.result.1.now c.split_at-2.result.1.now c.first_separator.result 1 c.split_at.ensures.back c.split_at-2.ensures.back
