use Rattle.std.proofs.Common.{◌≡◌, length, ap, arith}
use Rattle.std.proofs.Math.ListN.{length-take}
use Rattle.sketch_countmin.proofs.image.write_full.Goals as goal

pub copy_from_slice-requires : goal.copy_from_slice-requires
copy_from_slice-requires g c =
    let long : length c.preamble_bytes.result ≡ 16 = ap length c.preamble_bytes.ensures in
    omega (arith, long, length-take 16 c.args.out.now, c.requires)
