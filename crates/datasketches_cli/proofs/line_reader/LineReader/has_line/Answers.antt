use Rattle.std.proofs.lemmas.Bool.{ltb-true, lt-ltb}
use Rattle.datasketches_cli.proofs.LineReading.{feed_in_range}
use Rattle.datasketches_cli.proofs.line_reader.LineReader.has_line.Goals as goal

pub returns : goal.returns
returns c =
    let range = rw c.self.view_is at (feed_in_range c.self.inside.buffer.items c.self.inside.start c.self.inside.end c.self.inside.feed c.self.invariant.1 c.self.invariant.0 c.self.invariant.3) in
    (λ less. range.0 (ltb-true _ _ less), λ has. lt-ltb _ _ (range.1 has))
