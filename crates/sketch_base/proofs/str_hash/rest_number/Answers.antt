use Rattle.std.proofs.Common.{refl, arith}
use Rattle.sketch_base.proofs.StringEnd.{rest_is}
use Rattle.sketch_base.proofs.str_hash.rest_number.Goals as goal

pub overflow_sub-result : goal.overflow_sub-result
overflow_sub-result c = omega (arith, rest_is c.args.bytes.now _ c.block_end.result refl c.block_end.ensures)

pub returns : goal.returns
returns c = omega (arith, rest_is c.args.bytes.now _ c.block_end.result refl c.block_end.ensures, c.block_end.type_inv)
