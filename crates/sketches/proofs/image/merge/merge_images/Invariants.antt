use Rattle.std.proofs.Common.{◌≡◌}
use Rattle.sketches.proofs.Merged.{HasMerged}
use Rattle.sketches.proofs.image.merge.merge_images.Given as goal

abbrev pub invariant-each : goal.invariant-each
invariant-each g l = HasMerged l.options.max_bytes (g.I.Images.images l.fn.images) (g.I.Images.images l.images) l.sketch × (l.sketch.key ≡ l.options.key)
