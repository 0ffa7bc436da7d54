use Rattle.std.proofs.Common.{◌+◌, ◌<◌, ◌≤◌, ℕ, subst}
use Rattle.std.proofs.lemmas.Bool.{false≢true}
use Rattle.datasketches_c.proofs.Refusals.{refused_for}
use Rattle.datasketches_c.proofs.ManyJoinLemmas.{total_of_names}
use Rattle.datasketches_c.proofs.many_joins.CountMinSketchJoinsMany.join_with_many.Goals as goal

-- a shape differs, or the total has no room for all
pub returns-in-Err-clause-call : goal.returns-in-Err-clause-call
returns-in-Err-clause-call g c =
    let said = c.in-Err.ensures in
    let small = c.refusal_number.type_inv in
    let number = c.refusal_number.ensures in
    let greatest = g.V.CountMinValue.greatest in
    let total = total_of_names c.args.others.now in
    record {
      done = λ same fits. absurd (false≢true (said.succeeds same (subst (λ (n : ℕ). c.args.self.now.total + n ≤ greatest) total fits)));
      overflow = λ same over. refused_for c.in-Err.error _ _ _ small c.fault.ensures number (said.overflow same (subst (λ (n : ℕ). greatest < c.args.self.now.total + n) total over));
      mismatch = λ other. refused_for c.in-Err.error _ _ _ small c.fault.ensures number (said.mismatch other);
    }
