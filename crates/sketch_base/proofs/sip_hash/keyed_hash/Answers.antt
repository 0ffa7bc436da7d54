use Rattle.std.proofs.Common.{◌∙◌}
use Rattle.sketch_base.proofs.SipWords.{hash_is}
use Rattle.sketch_base.proofs.sip_hash.keyed_hash.Goals as goal

pub returns : goal.returns
returns c =
    c.finalization.ensures
    ∙ hash_is c.args.key c.args.bytes.now _ _ _ _ c.initialization.ensures c.compress_words-after.ensures c.last_word.ensures c.compression.ensures
