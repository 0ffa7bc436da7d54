use Rattle.std.proofs.Common.{◌∙◌, arith, sym}
use Rattle.sketch_base.proofs.Searching.{found_in, passed_in, found_here}
use Rattle.sketch_base.proofs.byte_set.first_member.Goals as goal
use Rattle.sketch_base.proofs.byte_set.first_member.Goals.{then-bytes-at-ge8+else-found-lt8, else-bytes-at-ge8}

pub returns-then-found-lt16-clause-value : goal.returns-then-found-lt16-clause-value
returns-then-found-lt16-clause-value g c =
    found_in (g.S.ByteSet.member c.args.set) c.args.bytes.now c.loop-at.at 16 _ (omega arith) c.loop-at.invariant.1 c.first_member_in_16-found.ensures c.if-found-lt16.true

pub loop-at-preserved : goal.loop-at-preserved
loop-at-preserved g c = (
  omega arith,
  passed_in (g.S.ByteSet.member c.args.set) c.args.bytes.now c.loop-at.at 16 _ (omega arith) c.loop-at.invariant.1 c.first_member_in_16-found.ensures (omega arith),
)

pub returns-then-found-lt8-clause-value : goal.returns-then-found-lt8-clause-value
returns-then-found-lt8-clause-value g c =
    found_in (g.S.ByteSet.member c.args.set) c.args.bytes.now c.loop-at.at 8 _ (omega arith) c.loop-at.invariant.1 c.first_member_in_8-found.ensures c.if-found-lt8.true

pub loop-at-2-init : goal.loop-at-2-init
loop-at-2-init g c =
    elim c.if-bytes-at-ge8.branch [
      | then-bytes-at-ge8+else-found-lt8 w ↦ (
        omega arith,
        rw w.at-is (passed_in (g.S.ByteSet.member c.args.set) c.args.bytes.now c.loop-at.at 8 _ (omega arith) c.loop-at.invariant.1 w.first_member_in_8-found.ensures (omega arith)),
      )
      | else-bytes-at-ge8 w ↦ rw w.at-is c.loop-at.invariant
    ]

pub returns-else-not-contains-clause-value : goal.returns-else-not-contains-clause-value
returns-else-not-contains-clause-value g c =
    found_here (g.S.ByteSet.member c.args.set) c.args.bytes.now c.loop-at-2.at c.loop-at-2.invariant.0 c.loop-at-2.invariant.1 (λ less. sym c.contains.ensures ∙ c.if-not-contains.false)

pub returns-after-loop-at-2-clause-value : goal.returns-after-loop-at-2-clause-value
returns-after-loop-at-2-clause-value g c =
    found_here (g.S.ByteSet.member c.args.set) c.args.bytes.now c.loop-at-2.at c.loop-at-2.invariant.0 c.loop-at-2.invariant.1 (λ less. absurd (omega arith))
