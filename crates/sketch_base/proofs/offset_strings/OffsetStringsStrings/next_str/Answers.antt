use Rattle.std.proofs.Common.{sym, ◌∙◌}
use Rattle.std.proofs.lemmas.Bool.{false≢true}
use Rattle.sketch_base.proofs.ManyStrings.{one_offset}
use Rattle.sketch_base.proofs.offset_strings.OffsetStringsStrings.next_str.Goals as goal

pub split_first-offsets-requires-clause-some : goal.split_first-offsets-requires-clause-some
split_first-offsets-requires-clause-some g c =
    one_offset c.self.inside.bytes.now (g.O.Offsets.offsets c.self.inside.offsets) (λ none. false≢true (sym c.if-is_empty.false ∙ c.is_empty.ensures.1 (sym c.self.view_is ∙ none)))
