use Rattle.std.proofs.Common.{ℕ, ◌∙◌, List, [], ◌∷◌, ◌++◌, ap, arith}
use Rattle.sketch_text.proofs.StringBuffers.{buffered_more, one_more}
use Rattle.sketch_text.proofs.string_buffer.StringBuffer.push.Goals as goal

pub invariant_of-self-in_default : goal.invariant_of-self-in_default
invariant_of-self-in_default c =
    rw (c.in_default.ensures.items, c.in_ok-push.ensures.items, c.as_bytes.ensures.value)
    (buffered_more c.self.inside.bytes.items c.self.inside.offsets.items c.args.string.now _ c.self.invariant (omega (arith, c.len.ensures)) c.utf8.string)

pub returns-clause-added : goal.returns-clause-added
returns-clause-added c =
    rw (c.in_default.ensures.items, c.in_ok-push.ensures.items, c.as_bytes.ensures.value)
    (one_more c.self.inside.bytes.items c.self.inside.offsets.items c.args.string.now _ c.self.invariant (omega (arith, c.len.ensures))
    ∙ ap (λ (l : List (List ℕ)). l ++ c.args.string.now ∷ []) c.self.view_is)
