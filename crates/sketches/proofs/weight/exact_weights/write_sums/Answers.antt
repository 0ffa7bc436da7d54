use Rattle.std.proofs.lemmas.Result.{err_from_is_err_and}
use Rattle.std.specs.List.{flat_map}
use Rattle.sketches.specs.Appending.{front_after, front_more}
use Rattle.sketches.specs.KeySums.{rows_at}
use Rattle.sketches.specs.KeyWeights.{row_line, total_line}
use Rattle.sketches.proofs.weight.exact_weights.write_sums.Goals as goal

pub returns-in_err-write_total-clause-front : goal.returns-in_err-write_total-clause-front
returns-in_err-write_total-clause-front g c =
    let e = err_from_is_err_and c.from_residual.result c.from_residual.ensures.1 in
    rw e.1 (front_more (g.W.Output.contents c.args.writer.now) (g.W.Output.contents c.write_total.new.writer) (total_line c.args.options.style c.args.options.header c.args.total) (flat_map (row_line c.args.options.style) (rows_at c.args.sums.now.entries c.args.order.now)) c.in_err-write_total.ensures.front)

pub returns-in_err-write_rows-clause-front : goal.returns-in_err-write_rows-clause-front
returns-in_err-write_rows-clause-front g c =
    let e = err_from_is_err_and c.from_residual-in_err-write_rows.result c.from_residual-in_err-write_rows.ensures.1 in
    rw e.1 (front_after (g.W.Output.contents c.args.writer.now) (g.W.Output.contents c.write_total.new.writer) (g.W.Output.contents c.write_rows.new.writer) (total_line c.args.options.style c.args.options.header c.args.total) (flat_map (row_line c.args.options.style) (rows_at c.args.sums.now.entries c.args.order.now)) c.in_ok-write_total.ensures.written c.in_err-write_rows.ensures.front)
