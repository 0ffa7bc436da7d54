use Rattle.std.proofs.lemmas.Result.{err_from_is_err_and}
use Rattle.sketches.proofs.SummedInputs.{no_items, rows_cut, rows_cut_at, rows_more, rows_stop}
use Rattle.sketches.proofs.weight.sum_rows.write_rows.Goals as goal

pub returns-in_err-send-clause-front : goal.returns-in_err-send-clause-front
returns-in_err-send-clause-front g c =
    let e = err_from_is_err_and c.from_residual.result c.from_residual.ensures.1 in
    rw e.1 (rows_cut c.args.style c.args.sums.now.entries c.args.order.now c.each.rest.now (g.W.Output.contents c.args.writer.now) (g.W.Output.contents c.each.writer) c.each.written.items c.each.invariant (g.W.Output.contents c.send.new.writer) (no_items c.each.rest.now c.in_default.ensures.cases) c.in_err-send.ensures.front)

pub returns-in_err-append_row-clause-front : goal.returns-in_err-append_row-clause-front
returns-in_err-append_row-clause-front g c =
    let e = err_from_is_err_and c.from_residual-in_err-append_row.result c.from_residual-in_err-append_row.ensures.1 in
    rw e.1 (rows_stop c.args.style c.args.sums.now.entries c.args.order.now c.each.rest.now (g.W.Output.contents c.args.writer.now) (g.W.Output.contents c.each.writer) c.each.written.items c.each.invariant)

pub returns-in_err-send-2-clause-front : goal.returns-in_err-send-2-clause-front
returns-in_err-send-2-clause-front g c =
    let e = err_from_is_err_and c.from_residual-in_err-send-2.result c.from_residual-in_err-send-2.ensures.1 in
    rw e.1 (rows_cut_at c.args.style c.args.sums.now.entries c.args.order.now c.each.rest.now (g.W.Output.contents c.args.writer.now) (g.W.Output.contents c.each.writer) c.each.written.items c.each.invariant c.in-Some.index.now c.in-Some.after.now c.append_row.new.written.items (g.W.Output.contents c.send-in-each.new.writer) c.in-Some.ensures.cases.0 c.in_ok-append_row.ensures c.in_err-send-2.ensures.front)

pub each-preserved : goal.each-preserved
each-preserved g c =
    rows_more c.args.style c.args.sums.now.entries c.args.order.now c.each.rest.now (g.W.Output.contents c.args.writer.now) (g.W.Output.contents c.each.writer) c.each.written.items c.each.invariant c.in-Some.index.now c.in-Some.after.now c.append_row.new.written.items _ (g.W.Output.contents c.send-in-each.new.writer) c.send-in-each.new.written.items c.in-Some.ensures.cases.0 c.in_ok-append_row.ensures c.in_ok-send-2.ensures.sent
