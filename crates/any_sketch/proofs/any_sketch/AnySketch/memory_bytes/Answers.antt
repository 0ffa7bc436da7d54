use Rattle.std.proofs.Common.{rules}
use Rattle.counter_table.specs.Bytes.{table_bytes}
use Rattle.any_sketch.proofs.any_sketch.AnySketch.memory_bytes.Goals as goal

-- the bytes of a slot are those of the type
pub returns-in-FrequentI64 : goal.returns-in-FrequentI64
unfolding table_bytes
returns-in-FrequentI64 c = search rules

pub returns-in-FrequentU64 : goal.returns-in-FrequentU64
unfolding table_bytes
returns-in-FrequentU64 c = search rules

pub returns-in-FrequentStrings : goal.returns-in-FrequentStrings
unfolding table_bytes
returns-in-FrequentStrings c = search rules
