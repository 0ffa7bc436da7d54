use Rattle.std.proofs.Common.{subst, sym}
use Rattle.any_sketch.specs.Writing.{TellsSize}
use Rattle.any_sketch.specs.declared.any_sketch.AnySketch.{AnySketch}
use Rattle.any_sketch.proofs.StringImages.{strings_short, strings_size}
use Rattle.any_sketch.proofs.any_sketch.AnySketch.serialized_size.Goals as goal

-- a sketch of strings
pub returns-in-FrequentStrings : goal.returns-in-FrequentStrings
returns-in-FrequentStrings c =
    let call = c.frequent_size-in-FrequentStrings in
    subst (λ (s : AnySketch). TellsSize s call.result) (sym c.in-FrequentStrings.is) (strings_size c.in-FrequentStrings.sketch call.result call.ensures.some call.ensures.each (call.ensures.lacks strings_short))
