use Rattle.std.proofs.Common.{◌∙◌}
use Rattle.sketch_base.specs.Murmur3State.{initial, write}
use Rattle.sketch_base.proofs.Blocks.{fed_more}
use Rattle.sketch_base.proofs.Murmur3Pieces.{write_more}
use Rattle.sketch_base.proofs.murmurhash.MurmurHash3X64128Hasher.write.Goals as goal

pub returns-clause-fed : goal.returns-clause-fed
returns-clause-fed c = λ seed before h.
    record { state_is = c.absorb.ensures ∙ fed_more write write_more (initial seed) c.args.self.now before c.args.bytes.now h.state_is }
