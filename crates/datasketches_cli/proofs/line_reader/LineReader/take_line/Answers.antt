use Rattle.std.proofs.Common.{sym, ◌∙◌, arith}
use Rattle.std.specs.List.{Contains}
use Rattle.std.proofs.lemmas.Bool.{false≢true}
use Rattle.datasketches_cli.proofs.LineReading.{feed_at_end, takes_some, takes_all}
use Rattle.datasketches_cli.proofs.line_reader.LineReader.take_line.Goals as goal

pub returns-then-has_line : goal.returns-then-has_line
returns-then-has_line c =
    rw c.skip_line.ensures (takes_some c.args.self.now c.args.line.now.items c.extend_from_slice.new.self.items (c.has_line.ensures.0 c.if-has_line.true) (rw c.line.ensures at c.in_ok-extend_from_slice.ensures.items))

pub invariant_of-self : goal.invariant_of-self
invariant_of-self c =
    let none : ¬ Contains c.args.self.now 10 = λ has. false≢true (sym c.if-has_line.false ∙ c.has_line.ensures.1 has) in (
      omega arith,
      c.self.invariant.1,
      c.self.invariant.2,
      feed_at_end c.self.inside.buffer.items c.self.inside.start c.self.inside.end c.self.inside.feed c.self.invariant.1 c.self.invariant.0 c.self.invariant.3 (rw (← c.self.view_is) at none),
    )

pub returns : goal.returns
returns c =
    takes_all c.self.inside.buffer.items _ _ _ c.self.inside.start c.self.inside.end c.self.view_is (λ has. false≢true (sym c.if-has_line.false ∙ c.has_line.ensures.1 has)) (rw c.deref.ensures.value at c.in_ok-extend_from_slice-2.ensures.items)
