use Rattle.std.proofs.Common.{refl}
use Rattle.datasketches_cli.proofs.LineReading.{begins, taken, taken_some, has_bytes, over, goes_on}
use Rattle.datasketches_cli.proofs.line_reader.LineReader.read_line.Goals as goal

pub tries-init : goal.tries-init
tries-init g c = rw c.clear.ensures.items (begins _)

pub returns-then-branch-clause-line : goal.returns-then-branch-clause-line
returns-then-branch-clause-line g c =
    rw (has_bytes _ (taken_some _ _ _ _ _ c.in_ok-take_line.ensures c.if-branch.true))
    (taken _ _ _ _ _ _ _ c.tries.invariant c.in_ok-take_line.ensures c.if-branch.true)

pub returns-then-branch-clause-some : goal.returns-then-branch-clause-some
returns-then-branch-clause-some g c = λ more. taken_some _ _ _ _ _ c.in_ok-take_line.ensures c.if-branch.true

pub returns-then-not-branch-clause-line : goal.returns-then-not-branch-clause-line
returns-then-not-branch-clause-line g c =
    over _ _ _ _ _ _ _ _ _ _ _ _ _ c.tries.invariant c.in_ok-take_line.ensures c.if-branch.false c.in_ok-fill.ensures.bytes c.if-not-branch.true refl

pub tries-preserved : goal.tries-preserved
tries-preserved g c =
    goes_on _ _ _ _ _ _ _ _ _ _ _ _ c.tries.invariant c.in_ok-take_line.ensures c.if-branch.false c.in_ok-fill.ensures.bytes
