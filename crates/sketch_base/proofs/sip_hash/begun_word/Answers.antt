use Rattle.std.proofs.Common.{rules}
use Rattle.sketch_base.proofs.SipHashPieces.{number_below}
use Rattle.sketch_base.proofs.sip_hash.begun_word.Goals as goal

pub returns-clause-below : goal.returns-clause-below
returns-clause-below c = number_below c.args.word.now c.args._used c.u64_at.result (search rules) c.requires.word c.requires.used c.requires.zeros c.u64_at.ensures
