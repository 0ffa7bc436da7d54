use Rattle.sketch_base.specs.Murmur3State.{initial, write}
use Rattle.sketch_base.proofs.Blocks.{fed_all}
use Rattle.sketch_base.proofs.Murmur3Pieces.{write_more}
use Rattle.sketch_base.proofs.item_hash.murmur3_of.Goals as goal

pub returns : goal.returns
returns g c = c.finish128.ensures.hash c.args.seed _ (record { state_is = fed_all write write_more (initial c.args.seed) _ _ (g.T.Hash.hash_input c.args.item.now) c.with_seed-hasher.ensures.state_is c.hash.ensures })
