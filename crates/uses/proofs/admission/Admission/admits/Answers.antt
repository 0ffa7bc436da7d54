use Rattle.sketch_base.specs.Hashes.{fed_bytes}
use Rattle.uses.proofs.Admissions.{admits_so}
use Rattle.uses.proofs.admission.Admission.admits.Goals as goal

pub returns : goal.returns
returns g c =
    admits_so c.args.self.now.recent (fed_bytes g.K.Hash.hash_input c.args.newcomer) (fed_bytes g.V.Hash.hash_input c.args.victim)
    c.estimate.result c.estimate-2.result c.estimate.ensures.least c.estimate-2.ensures.least
