use Rattle.std.specs.Hash.BuildHasherDefault as fixed
use Rattle.std.specs.RandomState as random
use Rattle.sketch_base.proofs.MapHashing.{fold-fold, fold-sip}
use Rattle.sketch_base.proofs.map_state.MapStateBuildHasher.hash_one.Goals as goal

pub returns-in-Fixed : goal.returns-in-Fixed
returns-in-Fixed g c = rw (c.in-Fixed.is, fold-fold (fixed.initial_hasher c.in-Fixed.state) (g.T.Hash.hash_input c.args.x)) c.hash_one.ensures

pub returns-in-Random : goal.returns-in-Random
returns-in-Random g c = rw (c.in-Random.is, fold-sip (random.initial_hasher c.in-Random.state) (g.T.Hash.hash_input c.args.x)) c.hash_one-in-Random.ensures
