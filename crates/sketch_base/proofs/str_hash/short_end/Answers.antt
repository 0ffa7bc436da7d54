use Rattle.std.proofs.Common.{ℕ, ◌+◌, ◌*◌, ◌%◌, ◌^◌, length, ap, ◌∙◌, arith, rules}
use Rattle.sketch_base.proofs.StringEnd.{few_fit, few_ended, two_halves}
use Rattle.sketch_base.proofs.str_hash.short_end.Goals as goal

pub overflow_add-result-then-n-gt0 : goal.overflow_add-result-then-n-gt0
overflow_add-result-then-n-gt0 c = omega (arith, c.few_bytes.ensures, few_fit c.args.bytes.now (omega arith) (search rules))

pub returns-then-n-ge4 : goal.returns-then-n-ge4
returns-then-n-ge4 c =
    two_halves c.args.bytes.now c.u32_at-then-n-ge4.result c.u32_at.result (omega arith) (omega arith) (search rules) c.u32_at-then-n-ge4.ensures c.u32_at.ensures

pub returns-then-n-gt0 : goal.returns-then-n-gt0
returns-then-n-gt0 c =
    ap (λ (n : ℕ). n + 255 * 2 ^ (8 * length c.args.bytes.now) % 2 ^ 64) c.few_bytes.ensures
    ∙ few_ended c.args.bytes.now (omega arith)
