use Rattle.sketch_base.proofs.Rotation.{twice_shifted}
use Rattle.sketch_base.proofs.machine_words.rotate_left.Goals as goal

pub returns : goal.returns
returns c = twice_shifted c.args.x c.args.n c.requires.above c.requires.below c.ranges.x.fits
