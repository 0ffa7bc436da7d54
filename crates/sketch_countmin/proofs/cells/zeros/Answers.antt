use Rattle.std.proofs.Common.{arith, ap, subst, ◌∙◌, ◌≡◌, ◌+◌, ℕ, map, replicate, pos, vec_len}
use Rattle.sketch_countmin.proofs.RowSteps.{zeros_more}
use Rattle.sketch_countmin.proofs.cells.zeros.Goals as goal

pub loop-counts-preserved : goal.loop-counts-preserved
loop-counts-preserved g c =
    let number = g.T.CountMinValue.number in
    let longer : vec_len c.loop-counts.counts + 1 ≡ vec_len c.push.new.self = omega (arith, c.in_ok-push.ensures.len) in
    record {
      zeros = subst (λ (n : ℕ). map number c.push.new.self.items ≡ replicate n (pos 0)) longer
          (zeros_more number c.loop-counts.counts.items c.push.new.self.items (vec_len c.loop-counts.counts) c.ZERO.result (ap number c.ZERO.ensures ∙ g.met.T.CountMinValue.zero_is) c.loop-counts.invariant.zeros c.in_ok-push.ensures.items);
      size = omega (arith, longer, c.loop-counts-test.true, c.len.ensures);
    }

pub returns : goal.returns
returns g c =
    let all : vec_len c.loop-counts.counts ≡ c.args.size = omega (arith, c.loop-counts-test.false, c.len.ensures, c.loop-counts.invariant.size) in
    subst (λ (n : ℕ). map g.T.CountMinValue.number c.loop-counts.counts.items ≡ replicate n (pos 0)) all c.loop-counts.invariant.zeros
