use Rattle.std.proofs.Common.{◌≡◌, length, sym, ap, subst, refl, ◌∙◌, arith}
use Rattle.std.proofs.lemmas.Result.{err_from_is_err_and}
use Rattle.sketch_frequencies.specs.Image.{contents_of}
use Rattle.sketch_frequencies.specs.State.{FrequentState, IsState}
use Rattle.sketch_frequencies.specs.Writing.{TakeBytes}
use Rattle.sketch_frequencies.proofs.SpelledSizes.{spelled_size, size_spelled, image_above, short_fits, size_refused, memory_refused, short_refused}
use Rattle.sketch_frequencies.proofs.frequent_items_sketch.FrequentItemsSketch.image_size.Goals as goal

pub returns-then-self-eq0-clause-some : goal.returns-then-self-eq0-clause-some
returns-then-self-eq0-clause-some g c =
    let s = c.args.self.now in
    let none : s.total ≡ 0 = sym (ap (λ (s : FrequentState g.row.T.Denot). s.total) c.self.view_is) ∙ c.if-self-eq0.true in
    size_spelled g.T.FrequentItemValue.codec g.T.FrequentItemValue.content g.T.PartialEq.eq g.met.T.FrequentItemValue.alike s 8 (subst (λ s. IsState g.T.PartialEq.eq s) c.self.view_is c.self.invariant) (omega (arith, none)) (record { empty = λ _. refl; full = λ some. absurd (omega (arith, some, none)) })

pub returns-clause-size : goal.returns-clause-size
returns-clause-size g c =
    let s = c.args.self.now in
    let total = ap (λ (s : FrequentState g.row.T.Denot). s.total) c.self.view_is in
    let counters = ap (λ (s : FrequentState g.row.T.Denot). s.counters) c.self.view_is in
    record {
      empty = λ none. absurd (omega (arith, none, total, c.if-self-eq0.false));
      full = λ _. (c.in_ok-items.items, subst (λ es. TakeBytes g.T.FrequentItemValue.codec (contents_of g.T.FrequentItemValue.content es) c.in_ok-items.items) (c.slots.ensures ∙ counters) c.in_ok-items.ensures.ok, omega (arith, c.num_active-active.ensures.active, ap length counters));
    }

pub returns-clause-some : goal.returns-clause-some
returns-clause-some g c =
    let s = c.args.self.now in
    let total = ap (λ (s : FrequentState g.row.T.Denot). s.total) c.self.view_is in
    size_spelled g.T.FrequentItemValue.codec g.T.FrequentItemValue.content g.T.PartialEq.eq g.met.T.FrequentItemValue.alike s _ (subst (λ s. IsState g.T.PartialEq.eq s) c.self.view_is c.self.invariant) (omega (arith, total)) (returns-clause-size g c)

pub returns-clause-each : goal.returns-clause-each
returns-clause-each g c = λ image spelled. spelled_size g.T.FrequentItemValue.codec g.T.FrequentItemValue.content image c.args.self.now _ (returns-clause-size g c) spelled

pub returns-in_err-items-clause-err : goal.returns-in_err-items-clause-err
returns-in_err-items-clause-err g c =
    let counters = ap (λ (s : FrequentState g.row.T.Denot). s.counters) c.self.view_is in
    let p = err_from_is_err_and c.from_residual.result c.from_residual.ensures.1 in
    rw (p.1, p.2) (size_refused g.T.FrequentItemValue.codec g.T.FrequentItemValue.content c.args.self.now _ _ (c.slots.ensures ∙ counters) c.in_err-items.ensures.err)

pub returns-in_err-items-clause-memory : goal.returns-in_err-items-clause-memory
returns-in_err-items-clause-memory g c =
    let total = ap (λ (s : FrequentState g.row.T.Denot). s.total) c.self.view_is in
    let counters = ap (λ (s : FrequentState g.row.T.Denot). s.counters) c.self.view_is in
    let p = err_from_is_err_and c.from_residual.result c.from_residual.ensures.1 in
    rw (p.1, p.2) (memory_refused g.T.FrequentItemValue.codec g.T.FrequentItemValue.content g.T.PartialEq.eq g.met.T.FrequentItemValue.alike c.args.self.now _ _ (subst (λ s. IsState g.T.PartialEq.eq s) c.self.view_is c.self.invariant) (omega (arith, total, c.if-self-eq0.false)) (omega (arith, total)) (c.slots.ensures ∙ counters) c.in_err-items.ensures.err)

pub returns-in_err-items-clause-short : goal.returns-in_err-items-clause-short
returns-in_err-items-clause-short g c = λ within.
    let counters = ap (λ (s : FrequentState g.row.T.Denot). s.counters) c.self.view_is in
    let p = err_from_is_err_and c.from_residual.result c.from_residual.ensures.1 in
    rw (p.1, p.2) (short_refused g.T.FrequentItemValue.codec g.T.FrequentItemValue.content g.T.PartialEq.eq c.args.self.now _ _ (subst (λ s. IsState g.T.PartialEq.eq s) c.self.view_is c.self.invariant) (c.slots.ensures ∙ counters) within c.in_err-items.ensures.err)

pub returns-then-items-front-clause-memory : goal.returns-then-items-front-clause-memory
returns-then-items-front-clause-memory g c = λ memory.
    let total = ap (λ (s : FrequentState g.row.T.Denot). s.total) c.self.view_is in
    let counters = ap (λ (s : FrequentState g.row.T.Denot). s.counters) c.self.view_is in
    image_above g.T.FrequentItemValue.codec g.T.FrequentItemValue.content g.T.PartialEq.eq g.met.T.FrequentItemValue.alike c.args.self.now _ _ (subst (λ s. IsState g.T.PartialEq.eq s) c.self.view_is c.self.invariant) (omega (arith, total, c.if-self-eq0.false)) (omega (arith, total)) (c.slots.ensures ∙ counters) c.in_ok-items.ensures.ok (omega (arith, c.if-items-front.true, c.num_active-active.ensures.active, ap length (c.slots.ensures)))

pub returns-then-items-front-clause-short : goal.returns-then-items-front-clause-short
returns-then-items-front-clause-short g c = λ within.
    let counters = ap (λ (s : FrequentState g.row.T.Denot). s.counters) c.self.view_is in
    let fits = short_fits g.T.FrequentItemValue.codec g.T.FrequentItemValue.content g.T.PartialEq.eq c.args.self.now _ _ (subst (λ s. IsState g.T.PartialEq.eq s) c.self.view_is c.self.invariant) (c.slots.ensures ∙ counters) within c.in_ok-items.ensures.ok in
    absurd (omega (arith, fits, c.if-items-front.true, c.num_active-active.ensures.active, ap length (c.slots.ensures)))
