use Rattle.std.proofs.Common.{sym, subst}
use Rattle.std.specs.List.{All}
use Rattle.std.specs.Str.{IsUtf8}
use Rattle.sketch_base.proofs.PartsUtf8.{words_utf8}
use Rattle.sketch_base.proofs.words.Words.between.Goals as goal

pub invariant_of-result : goal.invariant_of-result
invariant_of-result c = subst (All IsUtf8) (sym c.between.ensures) (words_utf8 c.args.separator c.as_bytes.result.now c.as_bytes.ensures.utf8)
