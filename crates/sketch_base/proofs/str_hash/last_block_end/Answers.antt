use Rattle.std.proofs.Common.{ℕ, ◌≡◌, ◌+◌, ◌*◌, ◌/◌, ◌%◌, ◌^◌, ◌-◌, length, refl, ap, ◌∙◌, arith, rules}
use Rattle.sketch_base.proofs.StringEnd.{last_block}
use Rattle.sketch_base.proofs.str_hash.last_block_end.Goals as goal

pub returns : goal.returns
returns c =
    let fits : c.u64_at-2.result * 2 ^ 64 % 2 ^ 128 ≡ c.u64_at-2.result * 2 ^ 64 = omega arith in
    ap (λ (n : ℕ). ((c.u64_at.result + n) / 256 + 255 * 2 ^ 120) / 2 ^ (8 * (15 - length c.args.bytes.now % 16))) fits
    ∙ last_block c.args.bytes.now c.u64_at.result c.u64_at-2.result _ c.requires (search rules) c.u64_at.ensures c.u64_at-2.ensures refl
