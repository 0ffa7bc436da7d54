use Rattle.std.proofs.Common.{map, take}
use Rattle.uses.specs.Prefilters.{UnitesAll}
use Rattle.uses.proofs.join_prefilter.JoinPrefilter.of_images.Given as goal

-- the images so far were united
abbrev pub invariant-loop-image : goal.invariant-loop-image
invariant-loop-image l = UnitesAll l.initial.prefilter (map (λ image. image.items) (take l.image-index l.images)) l.prefilter
