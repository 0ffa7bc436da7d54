use Rattle.std.proofs.Common.{ap, ◌∙◌, arith, rules}
use Rattle.sketch_base.specs.ShortBytes.{keep}
use Rattle.sketch_base.proofs.KeptBytes.{zeros_behind, kept_short, kept_long}
use Rattle.sketch_base.proofs.short_bytes.ShortBytesHasher.write.Goals as goal

pub invariant_of-self : goal.invariant_of-self
invariant_of-self c =
    (omega arith, zeros_behind c.self.inside.buffer _ c.args.bytes.now c.self.inside.len _ (search rules) c.self.invariant.1 c.copy_short.ensures (omega arith) (omega arith))

pub returns-then-bytes-used : goal.returns-then-bytes-used
returns-then-bytes-used c =
    kept_short c.self.inside.buffer _ c.args.bytes.now c.self.inside.len _ (search rules) c.copy_short.ensures (omega arith)
    ∙ ap (λ kept. keep kept c.args.bytes.now) c.self.view_is

pub returns-else-bytes-used : goal.returns-else-bytes-used
returns-else-bytes-used c =
    kept_long c.self.inside.buffer c.args.bytes.now c.self.inside.len (search rules) c.self.invariant.0 c.self.invariant.1 (omega arith)
    ∙ ap (λ kept. keep kept c.args.bytes.now) c.self.view_is
