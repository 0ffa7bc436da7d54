use Rattle.std.proofs.Common.{◌≡◌, ℕ, eqb, length, [], true, false, refl, sym, ◌∙◌, ap, arith}
use Rattle.std.specs.Io.BufRead.{take_through}
use Rattle.datasketches_cli.proofs.LineReading.{takes_some, taken, begins}
use Rattle.datasketches_cli.proofs.serve.answer_next.Goals as goal

pub returns-then-has_line-clause-answered : goal.returns-then-has_line-clause-answered
returns-then-has_line-clause-answered g c = (
  take_through 10 c.args.lines.now,
  rw c.skip_line.ensures (taken _ _ c.args.lines.now _ [] (take_through 10 c.args.lines.now) true (begins _) (takes_some c.args.lines.now [] (take_through 10 c.args.lines.now) (c.has_line.ensures.0 c.if-has_line.true) refl) refl),
  rw (c.without_end.ensures, c.line.ensures) at c.in_ok-became.ensures.answered,
)

pub returns-clause-answered : goal.returns-clause-answered
returns-clause-answered g c =
    let len : c.read_line.new.line.len ≡ length c.read_line.new.line.items = omega (arith, c.read_line.new.line.ok) in
    let some : eqb (length c.read_line.new.line.items) 0 ≡ false = sym (c.is_empty.ensures ∙ ap (λ (n : ℕ). eqb n 0) len) ∙ c.if-is_empty.false in (
      c.read_line.new.line.items,
      rw some at c.in_ok-more.ensures.line,
      rw (c.without_end-2.ensures, c.deref.ensures.value) at c.in_ok-became-2.ensures.answered,
    )
