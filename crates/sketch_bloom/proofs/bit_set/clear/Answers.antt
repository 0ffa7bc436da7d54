use Rattle.std.proofs.Common.{length}
use Rattle.sketch_bloom.proofs.Members.{set_of-zeros, zero_everywhere}
use Rattle.sketch_bloom.proofs.bit_set.clear.Goals as goal

pub returns : goal.returns
returns c = set_of-zeros c.fill.new.self (zero_everywhere c.fill.new.self (length c.args.words.now) (c.fill.ensures.after (λ y e. e)))
