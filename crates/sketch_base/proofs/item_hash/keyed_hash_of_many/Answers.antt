use Rattle.sketch_base.specs.SipHashState.{initial, write}
use Rattle.sketch_base.proofs.Blocks.{fed_all}
use Rattle.sketch_base.proofs.SipHashPieces.{write_more}
use Rattle.sketch_base.proofs.item_hash.keyed_hash_of_many.Goals as goal

pub returns : goal.returns
returns g c = c.digest.ensures.hash c.args.key _ (record { state_is = fed_all write write_more (initial c.args.key) _ _ (g.T.Hash.hash_input c.args.item.now) c.with_key-hasher.ensures.state_is c.hash.ensures })
