use Rattle.std.proofs.Common.{◌+◌}
use Rattle.std.proofs.lemmas.Result.{err_from_is_err_and}
use Rattle.sketches.specs.Appending.{front_none}
use Rattle.sketches.proofs.Written.{header_written, some_written, unseen_failed, writing_failed, written}
use Rattle.sketches.proofs.filter.uniq.uniq_after.Goals as goal

pub returns-clause-written : goal.returns-clause-written
returns-clause-written g c =
    let o = c.args.options in
    written g.W.Output.contents c.args.header.now (g.W.Output.contents c.args.writer.now) (g.I.Inputs.inputs c.args.inputs.now) (g.I.Inputs.fails c.args.inputs.now) c.in_ok-complete.complete (record { filter = c.args.filter; part = o.part; repeated = o.repeated; left_out = 0; written = record { alloc = c.args.alloc; bytes = c.new.result; form = o.form } }, c.write_header.new.writer) (c.read_inputs.new.sink, c.read_inputs.new.output) c.in_ok-write_header.ensures.written c.in_ok-complete.ensures.taken

pub returns-in_err-buffer-clause-front : goal.returns-in_err-buffer-clause-front
returns-in_err-buffer-clause-front g c =
    let o = c.args.options in
    let held = g.W.Output.contents c.args.writer.now in
    let e = err_from_is_err_and c.from_residual.result c.from_residual.ensures.1 in
    rw e.1 (header_written o.form o.repeated o.part c.args.header.now c.args.filter (g.I.Inputs.inputs c.args.inputs.now) held held (front_none held c.args.header.now))

pub returns-in_err-write_header : goal.returns-in_err-write_header
returns-in_err-write_header g c =
    let e = err_from_is_err_and c.from_residual-in_err-write_header.result c.from_residual-in_err-write_header.ensures.1 in
    let o = c.args.options in
    let f = c.in_err-write_header.ensures in
    let was = g.I.Inputs.inputs c.args.inputs.now in
    rw (e.1, e.2) (record {
      written = tt;
      complete = tt;
      too_long = tt;
      failed = writing_failed o.part (o.max_line + 1) was (g.W.Output.failure c.write_header.new.writer) _ f.failed;
      front = header_written o.form o.repeated o.part c.args.header.now c.args.filter was (g.W.Output.contents c.args.writer.now) (g.W.Output.contents c.write_header.new.writer) f.front;
    })

pub returns-in_err-complete : goal.returns-in_err-complete
returns-in_err-complete g c =
    let e = err_from_is_err_and c.from_residual-in_err-complete.result c.from_residual-in_err-complete.ensures.1 in
    let o = c.args.options in
    let was = g.I.Inputs.inputs c.args.inputs.now in
    let f = c.in_err-complete.ensures.failed in
    rw (e.1, e.2) (record {
      written = tt;
      complete = tt;
      too_long = tt;
      failed = unseen_failed g.W.Output.contents g.W.Output.failure (o.max_line + 1) was (record { filter = c.args.filter; part = o.part; repeated = o.repeated; left_out = 0; written = record { alloc = c.args.alloc; bytes = c.new.result; form = o.form } }, c.write_header.new.writer) (c.read_inputs.new.sink, c.read_inputs.new.output) _ f;
      front = some_written g.W.Output.contents g.W.Output.failure (o.max_line + 1) c.args.header.now (g.W.Output.contents c.args.writer.now) was (record { filter = c.args.filter; part = o.part; repeated = o.repeated; left_out = 0; written = record { alloc = c.args.alloc; bytes = c.new.result; form = o.form } }, c.write_header.new.writer) (c.read_inputs.new.sink, c.read_inputs.new.output) _ c.in_ok-write_header.ensures.written f;
    })
