use Rattle.std.proofs.Common.{ap}
use lib.Lanes.{put_chunk}
use Rattle.sketch_bloom.proofs.bit_set.combine_block.Goals as goal

pub returns : goal.returns
returns g c = ap (put_chunk c.args.at c.args.words.now) c.words-combined.ensures
