use Rattle.std.proofs.Common.{ap, ◌∙◌, rules}
use Rattle.sketch_base.specs.Murmur3State.{finish128}
use Rattle.sketch_base.proofs.Murmur3Pieces.{finish128-buffer, finish128-HasFed}
use Rattle.sketch_base.proofs.murmurhash.MurmurHash3X64128.finish128.Goals as goal

pub returns-clause-state : goal.returns-clause-state
returns-clause-state c =
    c.finalization.ensures ∙ (finish128-buffer c.self.inside.halves c.self.inside.buffer c.self.inside.total (search rules) c.self.invariant ∙ ap finish128 c.self.view_is)

pub returns-clause-hash : goal.returns-clause-hash
returns-clause-hash c = λ seed fed h.
    c.finalization.ensures ∙ (finish128-buffer c.self.inside.halves c.self.inside.buffer c.self.inside.total (search rules) c.self.invariant ∙ (ap finish128 c.self.view_is ∙ finish128-HasFed seed fed c.args.self.now h))
