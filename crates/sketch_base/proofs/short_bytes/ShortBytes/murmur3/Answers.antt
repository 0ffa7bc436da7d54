use Rattle.std.proofs.Common.{◌∙◌, rules}
use Rattle.sketch_base.proofs.KeptBytes.{hash_of_buffer}
use Rattle.sketch_base.proofs.short_bytes.ShortBytes.murmur3.Goals as goal

pub returns : goal.returns
returns c =
    c.finalization.ensures
    ∙ hash_of_buffer c.self.inside.buffer c.args.self.now c.self.inside.len c.args.seed (search rules) c.self.invariant.0 c.self.invariant.1 c.self.view_is c.requires
