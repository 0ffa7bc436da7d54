use Rattle.std.proofs.Common.{◌≡◌, ◌≤◌, ◌<◌, ◌^◌, ℕ, pos, refl, sym, ap, ◌∙◌, arith}
use Rattle.std.specs.Hash as fed
use Rattle.std.proofs.lemmas.Int.{of_z-to_z, to_z_pos}
use mir.Syntax.{w64}
use mir.Val.{of_z}
use Rattle.sketch_base.specs.Hashes.{fed_bytes}
use Rattle.any_sketch.specs.Updates.{max_i64}
use Rattle.datasketches_c.proofs.laws.numbers_feed_bytes.Goals as goal

-- the bits of a number without a sign are its own
own_bits : (n : ℕ) → n ≤ max_i64 → of_z w64 (pos n) ≡ n
own_bits n small =
    let half : n < 2 ^ 63 = omega arith in
    let whole : n < 2 ^ 64 = omega arith in
    ap (of_z w64) (sym (to_z_pos w64 n half)) ∙ of_z-to_z w64 n whole

pub returns : goal.returns
returns c = record { same = λ n small. ap (λ (k : ℕ). fed_bytes fed.u64 k) (sym (own_bits n small)); cast = λ z. refl }
