use Rattle.std.proofs.Common.{ℕ, ◌+◌, ◌-◌, ◌≡◌, take, drop, ap, ◌∙◌, arith}
use Rattle.std.specs.Int.{byte_len, from_le_bytes}
use Rattle.sketch_base.specs.Fields.{le_at}
use Rattle.sketch_base.proofs.image.array_at.Goals as goal

pub returns : goal.returns
unfolding le_at
returns g c = λ w long.
    let size : c.args.place + g.row.N - c.args.place ≡ byte_len w = omega (arith, long) in
    ap (from_le_bytes w) (c.copy_from_slice.ensures.after ∙ ap (λ (n : ℕ). take n (drop c.args.place c.args.image.now)) size)
