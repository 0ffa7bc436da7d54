use Rattle.sketch_base.proofs.KeptBytes.{keeps_all}
use Rattle.sketch_base.proofs.rehashable_item.RehashableItem.new.Goals as goal

pub invariant_of-result : goal.invariant_of-result
invariant_of-result g c = keeps_all _ _ (g.T.Hash.hash_input c.args.item.now) c.new-short.ensures c.hash.ensures
