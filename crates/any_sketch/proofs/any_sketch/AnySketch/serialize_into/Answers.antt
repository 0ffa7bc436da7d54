use Rattle.std.proofs.Common.{subst, sym}
use Rattle.any_sketch.specs.Writing.{WritesImage}
use Rattle.any_sketch.specs.declared.any_sketch.AnySketch.{AnySketch}
use Rattle.any_sketch.proofs.StringImages.{strings_short, strings_written}
use Rattle.any_sketch.proofs.any_sketch.AnySketch.serialize_into.Goals as goal

-- a sketch of strings
pub returns-in-FrequentStrings : goal.returns-in-FrequentStrings
returns-in-FrequentStrings c =
    let call = c.write_frequent-in-FrequentStrings in
    subst (λ (s : AnySketch). WritesImage s c.args.out.now call.new.out call.result) (sym c.in-FrequentStrings.is) (strings_written c.in-FrequentStrings.sketch c.args.out.now call.new.out call.result call.ensures.image call.ensures.fits call.ensures.rest call.ensures.exists call.ensures.short call.ensures.none (call.ensures.lacks strings_short) call.ensures.unchanged)
