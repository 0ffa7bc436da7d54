use Rattle.std.proofs.Common.{arith}
use Rattle.sketch_base.proofs.Xxh64String.{lowest_none, lowest_one, lowest_two, lowest_three}
use Rattle.sketch_base.proofs.str_hash.consume_lowest.Goals as goal

pub returns-then-count-eq0 : goal.returns-then-count-eq0
returns-then-count-eq0 c = lowest_none c.args.h c.args.number c.args.count c.if-count-eq0.true

pub returns-then-count-eq1 : goal.returns-then-count-eq1
returns-then-count-eq1 c = lowest_one c.args.h c.args.number c.args.count _ c.if-count-eq1.true c.consume_byte-one.ensures

pub returns-then-count-eq2 : goal.returns-then-count-eq2
returns-then-count-eq2 c = lowest_two c.args.h c.args.number c.args.count _ _ c.if-count-eq2.true c.consume_byte-one.ensures c.consume_byte-two.ensures

pub returns : goal.returns
returns c = lowest_three c.args.h c.args.number c.args.count _ _ _ (omega arith) c.consume_byte-one.ensures c.consume_byte-two.ensures c.consume_byte.ensures
