use Rattle.sketch_base.specs.Xxh64State.{initial, write}
use Rattle.sketch_base.proofs.Blocks.{fed_all}
use Rattle.sketch_base.proofs.Xxh64Pieces.{write_more}
use Rattle.sketch_base.proofs.item_hash.xxh64_of.Goals as goal

pub returns : goal.returns
returns g c = c.finish.ensures.hash c.args.seed _ (record { state_is = fed_all write write_more (initial c.args.seed) _ _ (g.T.Hash.hash_input c.args.item.now) c.with_seed-hasher.ensures.state_is c.hash.ensures })
