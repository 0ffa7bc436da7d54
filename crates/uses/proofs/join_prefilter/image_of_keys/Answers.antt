use Rattle.std.proofs.Common.{map, rules}
use Rattle.sketch_base.specs.Hashes.{fed_bytes}
use Rattle.uses.specs.Prefilters.{empty_of}
use Rattle.uses.proofs.Prefilters.{carries_either}
use Rattle.uses.proofs.join_prefilter.image_of_keys.Goals as goal

pub returns-clause-carries : goal.returns-clause-carries
returns-clause-carries g c =
    carries_either c.membership.ensures.inserted (λ image. image.items) (empty_of c.args.builder)
    (map (fed_bytes g.K.Hash.hash_input) c.args.keys.now) c.serialize.result (search rules)
