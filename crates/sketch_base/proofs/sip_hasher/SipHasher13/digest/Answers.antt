use Rattle.std.proofs.Common.{ap, ◌∙◌, arith, rules}
use Rattle.sketch_base.specs.SipHashState.{finish}
use Rattle.sketch_base.proofs.SipHashPieces.{finish-buffer, finish-HasFed}
use Rattle.sketch_base.proofs.sip_hasher.SipHasher13.digest.Goals as goal

pub returns-clause-state : goal.returns-clause-state
returns-clause-state c =
    c.finalization.ensures
    ∙ (finish-buffer c.self.inside.state _ c.self.inside.buffer c.self.inside.total c.begun_word-left.result _ (search rules) c.self.invariant c.begun_word-left.ensures.word (omega arith) c.compression.ensures
    ∙ ap finish c.self.view_is)

pub returns-clause-hash : goal.returns-clause-hash
returns-clause-hash c = λ key fed h. returns-clause-state c ∙ finish-HasFed key fed c.args.self.now h
