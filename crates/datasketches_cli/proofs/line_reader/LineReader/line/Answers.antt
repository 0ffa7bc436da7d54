use Rattle.std.proofs.Common.{rules}
use Rattle.datasketches_cli.proofs.LineReading.{feed_in_range, line_range}
use Rattle.datasketches_cli.proofs.line_reader.LineReader.line.Goals as goal

pub overflow_add-result : goal.overflow_add-result
overflow_add-result c =
    let less = (feed_in_range c.self.inside.buffer.items c.self.inside.start c.self.inside.end c.self.inside.feed c.self.invariant.1 c.self.invariant.0 c.self.invariant.3).1 (rw (← c.self.view_is) at c.requires) in
    search (rules, less)

pub slice_bounds-result-end : goal.slice_bounds-result-end
slice_bounds-result-end c =
    let less = (feed_in_range c.self.inside.buffer.items c.self.inside.start c.self.inside.end c.self.inside.feed c.self.invariant.1 c.self.invariant.0 c.self.invariant.3).1 (rw (← c.self.view_is) at c.requires) in
    search (rules, less)

pub returns : goal.returns
returns c =
    let line = line_range c.self.inside.buffer.items c.self.inside.start c.self.inside.end c.self.inside.feed c.self.invariant.1 c.self.invariant.0 c.self.invariant.3 (rw (← c.self.view_is) at c.requires) in
    rw c.deref.ensures.value (rw c.self.view_is at line)
