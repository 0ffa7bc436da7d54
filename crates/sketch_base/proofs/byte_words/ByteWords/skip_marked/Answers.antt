use Rattle.std.proofs.Common.{◌≡◌, ℕ, suc, ◌+◌, ◌-◌, ◌*◌, ◌^◌, bit_and, w64, sym, subst, arith}
use Rattle.std.specs.Int.{trailing_zeros}
use Rattle.sketch_base.proofs.WordEnds.{HasPassed, twice_fits, none_passed, passes_one, unmarked_rest, few_rest, marks_rest}
use Rattle.sketch_base.proofs.byte_words.ByteWords.skip_marked.Goals as goal

pub overflow_mul-ends : goal.overflow_mul-ends
overflow_mul-ends c = omega (arith, twice_fits c.self.inside.separator c.self.inside.bytes.now c.self.inside.unmarked c.self.inside.marks c.self.invariant.0 c.self.invariant.1 c.self.invariant.2)

pub overflow_add-ends : goal.overflow_add-ends
overflow_add-ends c = omega (arith, twice_fits c.self.inside.separator c.self.inside.bytes.now c.self.inside.unmarked c.self.inside.marks c.self.invariant.0 c.self.invariant.1 c.self.invariant.2)

pub loop-left-init : goal.loop-left-init
loop-left-init c =
    let none : c.args.n - c.args.n ≡ 0 = omega arith in (
      omega arith,
      subst (λ (count : ℕ). HasPassed c.self.inside.separator c.self.inside.bytes.now c.self.inside.unmarked count (bit_and c.self.inside.marks (2 ^ 64 - 1 - (c.self.inside.marks * 2 + 1))) 0) (sym none) (none_passed c.self.inside.separator c.self.inside.bytes.now c.self.inside.unmarked c.self.inside.marks c.self.invariant.0 c.self.invariant.1 c.self.invariant.2),
    )

pub loop-left-preserved : goal.loop-left-preserved
loop-left-preserved c =
    let more : c.args.n - (c.loop-left.left - 1) ≡ suc (c.args.n - c.loop-left.left) = omega arith in (
      omega arith,
      subst (λ (count : ℕ). HasPassed c.self.inside.separator c.self.inside.bytes.now c.self.inside.unmarked count (bit_and c.loop-left.ends (c.loop-left.ends - 1)) (trailing_zeros w64 c.loop-left.ends)) (sym more) (passes_one c.self.inside.separator c.self.inside.bytes.now c.self.inside.unmarked c.self.inside.marks c.self.invariant.0 c.self.invariant.1 c.self.invariant.2 (c.args.n - c.loop-left.left) c.loop-left.ends c.loop-left.at c.loop-left.invariant.1 c.if-ends-ne0.true),
    )

pub invariant_of-self : goal.invariant_of-self
invariant_of-self c = (
  unmarked_rest c.self.inside.separator c.self.inside.bytes.now c.self.inside.unmarked c.self.inside.marks c.self.invariant.0 c.self.invariant.1 c.self.invariant.2 (c.args.n - c.loop-left.left) c.loop-left.ends c.loop-left.at c.loop-left.invariant.1 _ c.split_at.ensures.back,
  few_rest c.self.inside.separator c.self.inside.bytes.now c.self.inside.unmarked c.self.inside.marks c.self.invariant.0 c.self.invariant.1 c.self.invariant.2 (c.args.n - c.loop-left.left) c.loop-left.ends c.loop-left.at c.loop-left.invariant.1 _ c.split_at.ensures.back,
  marks_rest c.self.inside.separator c.self.inside.bytes.now c.self.inside.unmarked c.self.inside.marks c.self.invariant.0 c.self.invariant.1 c.self.invariant.2 (c.args.n - c.loop-left.left) c.loop-left.ends c.loop-left.at c.loop-left.invariant.1 _ c.split_at.ensures.back,
)
