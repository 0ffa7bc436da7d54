use Rattle.std.proofs.Common.{sym, ap, subst, ◌∙◌, arith}
use Rattle.sketch_frequencies.specs.State.{FrequentState, IsState}
use Rattle.sketch_frequencies.proofs.Spellings.{spelled_empty, spelled_full}
use Rattle.sketch_frequencies.proofs.frequent_items_sketch.FrequentItemsSketch.write_image.Goals as goal

pub returns-then-self-eq0 : goal.returns-then-self-eq0
returns-then-self-eq0 g c =
    spelled_empty g.T.FrequentItemValue.codec g.T.FrequentItemValue.content g.T.PartialEq.eq g.met.T.FrequentItemValue.alike c.write_empty.new.out c.args.self.now c.lg_max_map_size-lg_max.result
    (subst (λ s. IsState g.T.PartialEq.eq s) c.self.view_is c.self.invariant)
    (sym (ap (λ s. s.total) c.self.view_is) ∙ c.if-self-eq0.true)
    c.lg_max_map_size-lg_max.ensures
    c.write_empty.ensures

pub returns-else-self-eq0 : goal.returns-else-self-eq0
returns-else-self-eq0 g c =
    let s = c.args.self.now in
    let total = ap (λ (s : FrequentState g.row.T.Denot). s.total) c.self.view_is in
    let error = ap (λ (s : FrequentState g.row.T.Denot). s.error) c.self.view_is in
    let entries = c.slots.ensures ∙ ap (λ (s : FrequentState g.row.T.Denot). s.counters) c.self.view_is in
    spelled_full g.T.FrequentItemValue.codec g.T.FrequentItemValue.content g.T.PartialEq.eq g.met.T.FrequentItemValue.alike c.write_full.new.out s c.lg_max_map_size-lg_max.result c.lg_length.result
    (subst (λ s. IsState g.T.PartialEq.eq s) c.self.view_is c.self.invariant)
    (omega (arith, total, c.write_full.ensures.total_fits))
    (omega (arith, total, c.if-self-eq0.false))
    c.lg_max_map_size-lg_max.ensures
    (c.lg_length.ensures ∙ ap (λ (s : FrequentState g.row.T.Denot). s.size) c.self.view_is)
    (rw (sym total, sym error, sym entries) c.write_full.ensures.whole)
