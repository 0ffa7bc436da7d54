use Rattle.std.proofs.Common.{arith}
use Rattle.sketch_base.specs.Hashes.{fed_bytes}
use Rattle.uses.proofs.Admissions.{share_below, estimate_bounded}
use Rattle.uses.proofs.admission.Admission.estimate.Goals as goal

pub returns-clause-own : goal.returns-clause-own
returns-clause-own g c =
    rw (← c.self.view_is) (share_below _ (fed_bytes g.K.Hash.hash_input c.args.item) c.estimate.result c.estimate.ensures.encloses)

pub returns-clause-bounded : goal.returns-clause-bounded
returns-clause-bounded g c =
    let le = estimate_bounded _ c.self.inside.recent (fed_bytes g.K.Hash.hash_input c.args.item) c.estimate.result c.num_hashes.ensures.state c.estimate.ensures.least in
    let room = c.self.invariant in
    rw (← c.self.view_is) (omega (arith, le, room))
