use Rattle.std.proofs.Common.{arith, ◌≡◌, ◌≤◌, ◌*◌, ◌^◌, ◌%◌}
use Rattle.std.proofs.Math.Pow.{pow_mono}
use Rattle.sketch_frequencies.proofs.Powers.{power_is}
use Rattle.sketch_frequencies.proofs.image.table_size.Goals as goal

pub returns-clause-power : goal.returns-clause-power
returns-clause-power c =
    let small : 2 ^ c.args.lg ≤ 2 ^ 30 = pow_mono c.requires in
    let value : 1 * 2 ^ c.args.lg % 18446744073709551616 ≡ 2 ^ c.args.lg = omega (arith, small) in
    rw value (power_is c.args.lg)

pub returns-clause-limit : goal.returns-clause-limit
returns-clause-limit c =
    let small : 2 ^ c.args.lg ≤ 2 ^ 30 = pow_mono c.requires in
    omega (arith, small)
