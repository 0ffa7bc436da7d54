use Rattle.std.proofs.Common.{ap, ◌∙◌, arith, rules}
use Rattle.sketch_base.specs.SipHashState as pieces
use Rattle.sketch_base.specs.SipHashState.{SipHashState}
use Rattle.sketch_base.proofs.SipHashPieces.{zeros_short, view_short}
use Rattle.sketch_base.proofs.sip_hasher.SipHasher13.absorb.Goals as goal

pub invariant_of-self : goal.invariant_of-self
invariant_of-self c = zeros_short c.self.inside.buffer _ c.args.bytes.now _ c.self.inside.total (search rules) c.self.invariant c.copy_short.ensures (omega arith) (omega arith)

pub returns-then-len-used : goal.returns-then-len-used
returns-then-len-used c =
    view_short c.self.inside.state c.self.inside.buffer _ c.args.bytes.now _ c.self.inside.total (search rules) c.copy_short.ensures (omega arith)
    ∙ ap (λ (f : SipHashState). pieces.write f c.args.bytes.now) c.self.view_is
