use Rattle.std.proofs.Common.{rules}
use Rattle.datasketches_cli.proofs.LineReading.{rest_range}
use Rattle.datasketches_cli.proofs.line_reader.LineReader.skip_line.Goals as goal

pub overflow_add-self : goal.overflow_add-self
overflow_add-self c =
    let rest = rest_range c.self.inside.buffer.items c.self.inside.start c.self.inside.end c.self.inside.feed c.self.invariant.1 c.self.invariant.0 c.self.invariant.3 (rw (← c.self.view_is) at c.requires) in
    search (rules, rest.0)

pub first_feed-self-inside-requires-clause-ordered : goal.first_feed-self-inside-requires-clause-ordered
first_feed-self-inside-requires-clause-ordered c =
    (rest_range c.self.inside.buffer.items c.self.inside.start c.self.inside.end c.self.inside.feed c.self.invariant.1 c.self.invariant.0 c.self.invariant.3 (rw (← c.self.view_is) at c.requires)).0

pub invariant_of-self : goal.invariant_of-self
invariant_of-self c =
    let rest = rest_range c.self.inside.buffer.items c.self.inside.start c.self.inside.end c.self.inside.feed c.self.invariant.1 c.self.invariant.0 c.self.invariant.3 (rw (← c.self.view_is) at c.requires) in
    (rest.0, c.self.invariant.1, c.self.invariant.2, rw c.deref.ensures.value at c.first_feed-self-inside.ensures)

pub returns : goal.returns
returns c =
    let rest = rest_range c.self.inside.buffer.items c.self.inside.start c.self.inside.end c.self.inside.feed c.self.invariant.1 c.self.invariant.0 c.self.invariant.3 (rw (← c.self.view_is) at c.requires) in
    rw c.self.view_is at rest.1
