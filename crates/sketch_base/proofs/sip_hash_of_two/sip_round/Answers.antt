use Rattle.std.proofs.Common.{ap, ℕ, List}
use Rattle.sketch_base.specs.SipHash.{sip_round}
use Rattle.sketch_base.proofs.sip_hash_of_two.sip_round.Goals as goal

pub returns : goal.returns
unfolding sip_round
returns c = λ a b e.
    let v0 = ap (λ (t : List ℕ × List ℕ × List ℕ × List ℕ). t.0) e in
    let v1 = ap (λ (t : List ℕ × List ℕ × List ℕ × List ℕ). t.1) e in
    let v2 = ap (λ (t : List ℕ × List ℕ × List ℕ × List ℕ). t.2) e in
    let v3 = ap (λ (t : List ℕ × List ℕ × List ℕ × List ℕ). t.3) e in
    let a0 = c.add_lanes-a0.ensures _ _ _ _ v0 v1 in
    let a1 = c.xor_lanes-a1.ensures _ _ _ _ (c.rotate_lanes.ensures _ _ v1) a0 in
    let a2 = c.add_lanes-a2.ensures _ _ _ _ v2 v3 in
    let a3 = c.xor_lanes-a3.ensures _ _ _ _ (c.rotate_lanes-2.ensures _ _ v3) a2 in
    let b2 = c.add_lanes-b2.ensures _ _ _ _ a2 a1 in
    let b1 = c.xor_lanes-b1.ensures _ _ _ _ (c.rotate_lanes-3.ensures _ _ a1) b2 in
    let b0 = c.add_lanes-b0.ensures _ _ _ _ (c.rotate_lanes-4.ensures _ _ a0) a3 in
    let b3 = c.xor_lanes-b3.ensures _ _ _ _ (c.rotate_lanes-5.ensures _ _ a3) b0 in
    let turned = c.rotate_lanes-6.ensures _ _ b2 in
    λ i. (b0 i, b1 i, turned i, b3 i)
