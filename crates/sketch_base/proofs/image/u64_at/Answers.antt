use Rattle.std.proofs.Common.{refl, ◌∙◌}
use Rattle.std.specs.Int.{w64}
use Rattle.sketch_base.proofs.image.u64_at.Goals as goal

pub returns : goal.returns
returns c = c.from_le_bytes.ensures ∙ c.array_at.ensures w64 refl
