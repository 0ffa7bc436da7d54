use Rattle.std.proofs.Common.{ap, ℕ, List, bit_xor}
use Rattle.sketch_base.specs.SipHash.{State, compression, sip_rounds}
use Rattle.sketch_base.proofs.sip_hash_of_two.compression.Goals as goal

pub returns : goal.returns
unfolding compression sip_rounds
returns c = λ a b m n e w.
    let v3 = c.xor_lanes.ensures _ _ _ _ (ap (λ (t : List ℕ × List ℕ × List ℕ × List ℕ). t.3) e) w in
    let mixed : State → ℕ → State = λ s word. (s.0, s.1, s.2, bit_xor s.3 word) in
    let after = c.sip_round-after.ensures (mixed a m) (mixed b n) (λ i. ((e i).0, (e i).1, (e i).2, v3 i)) in
    let v0 = c.xor_lanes-2.ensures _ _ _ _ (ap (λ (t : List ℕ × List ℕ × List ℕ × List ℕ). t.0) after) w in
    λ i. (v0 i, (after i).1, (after i).2, (after i).3)
