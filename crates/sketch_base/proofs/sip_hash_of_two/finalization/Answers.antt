use Rattle.std.proofs.Common.{ap, ℕ, List, bit_xor, refl}
use Rattle.sketch_base.specs.SipHash.{State, finalization, sip_rounds}
use Rattle.sketch_base.proofs.sip_hash_of_two.finalization.Goals as goal

pub returns : goal.returns
unfolding finalization sip_rounds
returns c = λ a b e.
    let v2 = c.xor_lanes.ensures _ _ _ _ (ap (λ (t : List ℕ × List ℕ × List ℕ × List ℕ). t.2) e) refl in
    let begun : State → State = λ s. (s.0, s.1, bit_xor s.2 0xFF, s.3) in
    let one = c.sip_round.ensures (begun a) (begun b) (λ i. ((e i).0, (e i).1, v2 i, (e i).3)) in
    let two = c.sip_round-2.ensures _ _ one in
    let three = c.sip_round-after.ensures _ _ two in
    let w0 = ap (λ (t : List ℕ × List ℕ × List ℕ × List ℕ). t.0) three in
    let w1 = ap (λ (t : List ℕ × List ℕ × List ℕ × List ℕ). t.1) three in
    let w2 = ap (λ (t : List ℕ × List ℕ × List ℕ × List ℕ). t.2) three in
    let w3 = ap (λ (t : List ℕ × List ℕ × List ℕ × List ℕ). t.3) three in
    c.xor_lanes-4.ensures _ _ _ _ (c.xor_lanes-3.ensures _ _ _ _ (c.xor_lanes-2.ensures _ _ _ _ w0 w1) w2) w3
