use Rattle.std.proofs.Common.{ap, ◌∙◌, arith, rules}
use Rattle.sketch_base.specs.Xxh64State as pieces
use Rattle.sketch_base.specs.Xxh64State.{Xxh64State}
use Rattle.sketch_base.proofs.Xxh64Pieces.{view_short}
use Rattle.sketch_base.proofs.xxhash.XxHash64.absorb.Goals as goal

pub returns-then-len-used : goal.returns-then-len-used
returns-then-len-used c =
    view_short c.self.inside.seed c.self.inside.is_long c.self.inside.accumulators c.self.inside.buffer _ c.args.bytes.now _ c.self.inside.total (search rules) c.copy_short.ensures (omega arith)
    ∙ ap (λ (f : Xxh64State). pieces.write f c.args.bytes.now) c.self.view_is
