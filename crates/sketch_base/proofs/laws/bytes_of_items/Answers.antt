use Rattle.std.proofs.Common.{◌≡◌, ◌+◌, ◌-◌, ◌^◌, ap, arith, refl, suc}
use Rattle.std.specs.Hash as fed
use Rattle.std.specs.Int.{w64, to_le_bytes}
use Rattle.sketch_base.proofs.laws.bytes_of_items.Goals as goal

pub returns-clause-unsigned : goal.returns-clause-unsigned
unfolding fed.le_bytes
returns-clause-unsigned c = λ n below. refl

pub returns-clause-signed : goal.returns-clause-signed
unfolding fed.le_bytes
returns-clause-signed c = λ n below. refl

pub returns-clause-negative : goal.returns-clause-negative
unfolding fed.le_bytes
returns-clause-negative c = λ n below.
    let next : suc n ≡ n + 1 = omega arith in
    ap (λ m. to_le_bytes w64 (2 ^ 64 - m)) next
