use Rattle.std.proofs.Common.{ap, ◌∙◌}
use Rattle.std.specs.Int.{w64, to_le_bytes}
use Rattle.std.proofs.Math.Facts.{Fits-mask}
use Rattle.sketch_countmin.specs.Values.{number_in}
use Rattle.sketch_countmin.proofs.Numbers.{low_word}
use Rattle.sketch_countmin.proofs.count_min_value.CountMinValue.to_bytes.Goals as goal

pub overflow_cast-low : goal.overflow_cast-low
overflow_cast-low g c = Fits-mask c.cast_unsigned-low.result 64 tt

pub returns-clause-value : goal.returns-clause-value
returns-clause-value g c = c.to_le_bytes.ensures ∙ ap (to_le_bytes w64) (low_word c.cast_unsigned-low.result c.to_number.result (g.Self.CountMinValue.number c.args.self) c.cast_unsigned-low.ensures c.to_number.ensures.value c.to_number.ensures.narrow)

pub returns-clause-reads_back : goal.returns-clause-reads_back
returns-clause-reads_back g c = ap (number_in g.Self.CountMinValue.least) (returns-clause-value g c) ∙ g.met.Self.CountMinValue.bytes_fit (g.Self.CountMinValue.number c.args.self) c.to_number.ensures.in_range
