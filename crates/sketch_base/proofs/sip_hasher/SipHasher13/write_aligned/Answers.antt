use Rattle.std.proofs.Common.{ℕ, List, ◌*◌, ◌/◌, length, ap, ◌∙◌, rules}
use Rattle.std.proofs.lemmas.List.{take_rest}
use Rattle.sketch_base.specs.SipHashState as pieces
use Rattle.sketch_base.specs.SipHashState.{SipHashState}
use Rattle.sketch_base.proofs.SipHashPieces.{zeros_whole, view_whole, none_begun}
use Rattle.sketch_base.proofs.sip_hasher.SipHasher13.write_aligned.Goals as goal

pub invariant_of-self : goal.invariant_of-self
invariant_of-self c =
    let bs : List ℕ = c.args.bytes.now in
    let none = none_begun c.args.self.now c.self.inside.state c.self.inside.buffer c.self.inside.total c.self.view_is (search rules) c.requires in
    zeros_whole bs _ _ c.self.inside.total none.0 (take_rest bs (length bs / 8 * 8)) c.copy_short.ensures

pub returns : goal.returns
returns c =
    let bs : List ℕ = c.args.bytes.now in
    let none = none_begun c.args.self.now c.self.inside.state c.self.inside.buffer c.self.inside.total c.self.view_is (search rules) c.requires in
    view_whole c.self.inside.state _ bs _ _ c.self.inside.total none.0 c.compress_words-self-inside.ensures (take_rest bs (length bs / 8 * 8)) c.copy_short.ensures
    ∙ ap (λ (f : SipHashState). pieces.write f bs) none.1
