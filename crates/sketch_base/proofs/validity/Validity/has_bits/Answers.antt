use Rattle.std.proofs.Common.{◌≡◌, ◌+◌, ◌*◌, ap, sym, ◌∙◌, length, arith}
use Rattle.std.proofs.lemmas.Grind.{common_steps}
use Rattle.sketch_base.proofs.ValidBits.{length-bits}
use Rattle.sketch_base.proofs.validity.Validity.has_bits.Goals as goal

pub returns-then-behind-bytes : goal.returns-then-behind-bytes
returns-then-behind-bytes c =
    let number : length c.args.self.now ≡ c.self.inside.left + 8 * length c.self.inside.bytes.now = ap length (sym c.self.view_is) ∙ length-bits c.self.inside.left c.self.inside.byte c.self.inside.bytes.now in
    grind (arith, common_steps)

pub returns-then-behind-bytes-2 : goal.returns-then-behind-bytes-2
returns-then-behind-bytes-2 c =
    let number : length c.args.self.now ≡ c.self.inside.left + 8 * length c.self.inside.bytes.now = ap length (sym c.self.view_is) ∙ length-bits c.self.inside.left c.self.inside.byte c.self.inside.bytes.now in
    grind (arith, common_steps)

pub returns-else-behind-bytes-2 : goal.returns-else-behind-bytes-2
returns-else-behind-bytes-2 c =
    let number : length c.args.self.now ≡ c.self.inside.left + 8 * length c.self.inside.bytes.now = ap length (sym c.self.view_is) ∙ length-bits c.self.inside.left c.self.inside.byte c.self.inside.bytes.now in
    grind (arith, common_steps)
