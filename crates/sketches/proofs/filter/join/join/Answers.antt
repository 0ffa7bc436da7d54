use Rattle.std.proofs.Common.{◌+◌, inr}
use Rattle.sketches.proofs.JoinedInputs.{header_joined, joined, some_joined}
use Rattle.sketches.proofs.filter.join.join.Goals as goal

pub returns-in-Ok-read_inputs-clause-written : goal.returns-in-Ok-read_inputs-clause-written
returns-in-Ok-read_inputs-clause-written g c =
    let o = c.args.options in
    let filter = c.in_ok-filter.filter in (
      c.in-Ok.empty,
      c.in-Ok.ensures.made,
      joined g.W.Output.contents c.args.header.now (g.W.Output.contents c.args.writer.now) c.in-Ok.empty o.keys_part (g.K.LineSource.remaining c.args.keys.now) (g.I.Inputs.inputs c.args.inputs.now) (g.I.Inputs.fails c.args.inputs.now) c.in-Ok-read_inputs.complete
          (record { filter = filter; part = o.part; wanted = o.wanted; left_out = 0; written = record { alloc = c.args.alloc; bytes = c.new.result; form = o.form } }, c.write_header.new.writer) (c.read_inputs.new.sink, c.read_inputs.new.output) c.in_ok-filter.ensures.inserted c.in_default.ensures.written c.in-Ok-read_inputs.ensures.taken,
    )

pub returns-in-Err-write_header-clause-front : goal.returns-in-Err-write_header-clause-front
returns-in-Err-write_header-clause-front g c =
    let o = c.args.options in
    inr (
      c.in-Ok.empty,
      c.in-Ok.ensures.made,
      header_joined o.form o.wanted o.part c.args.header.now c.in-Ok.empty o.keys_part (g.K.LineSource.remaining c.args.keys.now) (g.I.Inputs.inputs c.args.inputs.now) (g.W.Output.contents c.args.writer.now) (g.W.Output.contents c.write_header.new.writer) c.in-Err-write_header.ensures.front,
    )

pub returns-clause-front : goal.returns-clause-front
returns-clause-front g c =
    let o = c.args.options in
    let filter = c.in_ok-filter.filter in
    inr (
      c.in-Ok.empty,
      c.in-Ok.ensures.made,
      some_joined g.W.Output.contents g.W.Output.failure (o.max_line + 1) c.args.header.now (g.W.Output.contents c.args.writer.now) c.in-Ok.empty o.keys_part (g.K.LineSource.remaining c.args.keys.now) (g.I.Inputs.inputs c.args.inputs.now)
          (record { filter = filter; part = o.part; wanted = o.wanted; left_out = 0; written = record { alloc = c.args.alloc; bytes = c.new.result; form = o.form } }, c.write_header.new.writer) (c.read_inputs.new.sink, c.read_inputs.new.output) _ c.in_ok-filter.ensures.inserted c.in_default.ensures.written c.in-Err-read_inputs.ensures.failed,
    )
