use Rattle.std.proofs.Common.{◌≡◌, [], refl, sym, ◌∙◌}
use Rattle.std.proofs.lemmas.List.{nil_from_length}
use Rattle.sketch_base.proofs.ValidBits.{first_left, loaded, no_bits}
use Rattle.sketch_base.proofs.validity.Validity.next.Goals.{then-self-eq0+in_ok-byte, else-self-eq0}
use Rattle.sketch_base.proofs.validity.Validity.next.Goals as goal

-- no bit is left
pub returns-in_err-byte : goal.returns-in_err-byte
returns-in_err-byte c =
    let none : c.args.self.now ≡ [] = sym c.self.view_is ∙ no_bits c.self.inside.left c.self.inside.byte c.self.inside.bytes.now c.if-self-eq0.true (nil_from_length c.self.inside.bytes.now c.in_err-byte.ensures.cases) in
    rw c.from_residual.ensures (none, none)

pub returns : goal.returns
returns c = elim c.if-self-eq0.branch [
  | then-self-eq0+in_ok-byte w ↦ sym c.self.view_is ∙ (loaded c.self.inside.left c.self.inside.byte w.in_ok-byte.byte.now c.self.inside.bytes.now w.in_ok-byte.bytes.now w.if-self-eq0.true w.in_ok-byte.ensures.cases.0 ∙ (rw w.self-inside-is refl))
  | else-self-eq0 w ↦ sym c.self.view_is ∙ (first_left c.self.inside.left c.self.inside.byte c.self.inside.bytes.now w.if-self-eq0.false ∙ (rw w.self-inside-is refl))
]
