use Rattle.std.proofs.Common.{◌≡◌, Some, pos, refl}
use Rattle.any_sketch.specs.KindNumbers.{kind_number, kind_numbered}
use Rattle.any_sketch.specs.declared.kind.Kind.{Kind}
use Rattle.any_sketch.specs.declared.kind.Kind.TheVariants.{Filter, CountU64, CountI64, FrequentU64, FrequentI64, FrequentStrings}
use Rattle.any_sketch.proofs.laws.kinds_have_their_numbers.Goals as goal

-- each kind
each : (kind : Kind) → kind_numbered (pos (kind_number kind)) ≡ Some kind
each Filter = refl
each CountU64 = refl
each CountI64 = refl
each FrequentU64 = refl
each FrequentI64 = refl
each FrequentStrings = refl

pub returns : goal.returns
returns c = each
