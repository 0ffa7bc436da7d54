use Rattle.std.proofs.Common.{ap}
use Rattle.std.specs.Str.{IsUtf8}
use Rattle.sketch_base.specs.Strings.{strings_at}
use Rattle.sketch_base.proofs.ManyStrings.{all_after}
use Rattle.sketch_base.proofs.byte_strings.ByteStringsStrings.next_str.Goals as goal

pub invariant_of-self : goal.invariant_of-self
invariant_of-self c =
    all_after IsUtf8 (strings_at c.self.inside.items.now) (strings_at c.in_ok-first.items.now) c.in_ok-first.first.now.now (ap strings_at c.in_ok-first.ensures.cases.0) c.self.invariant
