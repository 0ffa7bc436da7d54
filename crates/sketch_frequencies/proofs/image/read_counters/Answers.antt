use Rattle.std.proofs.Common.{arith, ◌≤◌, ◌<◌, ◌+◌, ◌-◌, ◌*◌, ℕ, length, drop, refl, inl, inr, ap, ◌∙◌}
use Rattle.std.proofs.lemmas.Result.{err_from_is_err_and}
use Rattle.sketch_frequencies.specs.Image.{active_at, items_at, used_by}
use Rattle.sketch_frequencies.proofs.Cases.{by_cases}
use Rattle.sketch_frequencies.proofs.Puts.{count_le_sum}
use Rattle.sketch_frequencies.proofs.ImageCounting.{at_start, one_more, one_dropped, at_end, fails, so_far_within}
use Rattle.sketch_frequencies.proofs.ImageSizes.{none_read, one_read, items_and_rest}
use Rattle.sketch_frequencies.proofs.OwnedBytes.{owns_at_start, owns_more, owns_dropped, owns_at_end}
use Rattle.sketch_frequencies.proofs.image.read_counters.Goals as goal
use Rattle.sketch_frequencies.proofs.image.read_counters.Goals.{then-weight-ne0, else-weight-ne0}

pub loop-i-init : goal.loop-i-init
loop-i-init g c =
    let rest = c.advance.ensures ∙ ap (drop (32 + 8 * c.args.active)) c.new-slice.ensures ∙ ap (λ (n : ℕ). drop (32 + 8 * n) c.args.image.now) c.requires.active in
    record {
      so_far = rw c.in_ok-map.ensures.ok (at_start g.T.FrequentItemValue.codec g.T.FrequentItemValue.content g.T.PartialEq.eq g.met.T.Eq.laws g.met.T.FrequentItemValue.lawful.equivalence g.met.T.FrequentItemValue.alike c.args.image.now c.advance.new.self rest);
      size = rw c.in_ok-map.ensures.ok refl;
      key = rw c.in_ok-map.ensures.ok refl;
      purges = rw c.in_ok-map.ensures.ok refl;
      read = none_read g.T.FrequentItemValue.codec (drop (32 + 8 * c.args.active) c.args.image.now) c.args.active c.advance.new.self (c.advance.ensures ∙ ap (drop (32 + 8 * c.args.active)) c.new-slice.ensures);
      owned = rw c.in_ok-map.ensures.ok (owns_at_start g.T.FrequentItemValue.codec g.T.FrequentItemValue.content (32 + 8 * c.args.active) c.args.image.now _ (c.advance.ensures ∙ ap (drop (32 + 8 * c.args.active)) c.new-slice.ensures));
    }

pub returns-in_err-item-clause-err : goal.returns-in_err-item-clause-err
returns-in_err-item-clause-err g c =
    let p = err_from_is_err_and c.from_residual-in_err-item.result c.from_residual-in_err-item.ensures.1 in
    let i = c.loop-i.invariant.so_far in
    let lt : c.loop-i.i < active_at c.args.image.now = omega (arith, c.loop-i-test.true, c.requires.active) in
    rw (p.1, p.2) (by_cases c.in_err-item.ensures.err (λ m. inl m) (λ h. inr (h.0, fails g.T.FrequentItemValue.codec g.T.FrequentItemValue.content g.T.PartialEq.eq g.met.T.Eq.laws g.met.T.FrequentItemValue.lawful.equivalence g.met.T.FrequentItemValue.alike i.items (active_at c.args.image.now) c.loop-i.i c.loop-i.slice _ (items_at g.T.FrequentItemValue.codec c.args.image.now) lt h.1 i.read)))

pub adjust_or_put_value-requires-clause-room : goal.adjust_or_put_value-requires-clause-room
adjust_or_put_value-requires-clause-room g c = λ _.
    let image = c.args.image.now in
    let lt : c.loop-i.i < active_at image = omega (arith, c.loop-i-test.true, c.requires.active) in
    let w = so_far_within g.T.FrequentItemValue.codec g.T.FrequentItemValue.content g.T.PartialEq.eq g.met.T.Eq.laws g.met.T.FrequentItemValue.lawful.equivalence g.met.T.FrequentItemValue.alike image c.loop-i.slice c.loop-i.i c.loop-i.map.entries c.loop-i.invariant.so_far lt in
    omega (arith, w.0, lt, c.requires.few, c.requires.active, c.requires.least, c.loop-i.invariant.size)

pub adjust_or_put_value-requires-clause-fits : goal.adjust_or_put_value-requires-clause-fits
adjust_or_put_value-requires-clause-fits g c = λ _.
    let image = c.args.image.now in
    let lt : c.loop-i.i < active_at image = omega (arith, c.loop-i-test.true, c.requires.active) in
    let w = so_far_within g.T.FrequentItemValue.codec g.T.FrequentItemValue.content g.T.PartialEq.eq g.met.T.Eq.laws g.met.T.FrequentItemValue.lawful.equivalence g.met.T.FrequentItemValue.alike image c.loop-i.slice c.loop-i.i c.loop-i.map.entries c.loop-i.invariant.so_far lt in
    omega (arith, w.1, count_le_sum g.T.PartialEq.eq c.loop-i.map.entries c.in_ok-item.item, c.weight_at-weight.ensures, c.requires.fits)

pub loop-i-preserved : goal.loop-i-preserved
loop-i-preserved g c =
    let image = c.args.image.now in
    let k = c.loop-i.i in
    let lt : k < active_at image = omega (arith, c.loop-i-test.true, c.requires.active) in
    let r = c.in_ok-item.ensures.ok in
    let weight = c.weight_at-weight.result in
    let room : ℕ = length image - (32 + 8 * c.args.active) in
    let bound = g.met.T.FrequentItemValue.lawful.owned_bound (g.T.FrequentItemValue.content c.in_ok-item.item) r.used c.loop-i.slice r.read in
    elim c.if-weight-ne0.branch [
      | then-weight-ne0 w ↦ record {
        so_far = rw (w.map-is, r.left) (one_more g.T.FrequentItemValue.codec g.T.FrequentItemValue.content g.T.PartialEq.eq g.met.T.Eq.laws g.met.T.FrequentItemValue.lawful.equivalence g.met.T.FrequentItemValue.alike image c.loop-i.slice k r.used weight c.in_ok-item.item c.loop-i.map.entries w.adjust_or_put_value.new.self.entries lt r.read c.weight_at-weight.ensures (omega (arith, w.if-weight-ne0.true)) c.loop-i.invariant.so_far w.adjust_or_put_value.ensures.entries w.adjust_or_put_value.ensures.distinct);
        size = ap (λ t. t.size) w.map-is ∙ w.adjust_or_put_value.ensures.size ∙ c.loop-i.invariant.size;
        key = ap (λ t. t.key) w.map-is ∙ w.adjust_or_put_value.ensures.key ∙ c.loop-i.invariant.key;
        purges = ap (λ t. t.purges) w.map-is ∙ w.adjust_or_put_value.ensures.purges ∙ c.loop-i.invariant.purges;
        read = rw r.left (one_read g.T.FrequentItemValue.codec (drop (32 + 8 * c.args.active) image) c.args.active k r.used c.loop-i.slice c.loop-i-test.true r.within (ap used_by r.read) c.loop-i.invariant.read);
        owned = rw (w.map-is, r.left) (owns_more g.T.FrequentItemValue.codec g.T.FrequentItemValue.content g.T.PartialEq.eq room r.used weight c.loop-i.slice c.in_ok-item.item c.loop-i.map.entries w.adjust_or_put_value.new.self.entries r.within bound w.adjust_or_put_value.ensures.entries c.loop-i.invariant.owned);
      }
      | else-weight-ne0 w ↦ record {
        so_far = rw (w.map-is, r.left) (one_dropped g.T.FrequentItemValue.codec g.T.FrequentItemValue.content g.T.PartialEq.eq g.met.T.Eq.laws g.met.T.FrequentItemValue.lawful.equivalence g.met.T.FrequentItemValue.alike image c.loop-i.slice k r.used weight c.in_ok-item.item c.loop-i.map.entries lt r.read c.weight_at-weight.ensures w.if-weight-ne0.false c.loop-i.invariant.so_far);
        size = ap (λ t. t.size) w.map-is ∙ c.loop-i.invariant.size;
        key = ap (λ t. t.key) w.map-is ∙ c.loop-i.invariant.key;
        purges = ap (λ t. t.purges) w.map-is ∙ c.loop-i.invariant.purges;
        read = rw r.left (one_read g.T.FrequentItemValue.codec (drop (32 + 8 * c.args.active) image) c.args.active k r.used c.loop-i.slice c.loop-i-test.true r.within (ap used_by r.read) c.loop-i.invariant.read);
        owned = rw (w.map-is, r.left) (owns_dropped g.T.FrequentItemValue.codec g.T.FrequentItemValue.content room r.used c.loop-i.slice c.loop-i.map.entries r.within c.loop-i.invariant.owned);
      }
    ]

pub returns-clause-counters : goal.returns-clause-counters
returns-clause-counters g c =
    let image = c.args.image.now in
    let le : active_at image ≤ c.loop-i.i = omega (arith, c.loop-i-test.false, c.requires.active) in
    at_end g.T.FrequentItemValue.codec g.T.FrequentItemValue.content g.T.PartialEq.eq g.met.T.Eq.laws g.met.T.FrequentItemValue.lawful.equivalence g.met.T.FrequentItemValue.alike image c.loop-i.slice c.loop-i.i c.loop-i.map.entries le c.loop-i.invariant.so_far

pub returns-clause-owned : goal.returns-clause-owned
returns-clause-owned g c =
    let taken = items_and_rest g.T.FrequentItemValue.codec c.args.image.now c.args.active c.loop-i.i c.loop-i.slice c.loop-i-test.false c.loop-i.invariant.read in
    owns_at_end g.T.FrequentItemValue.codec g.T.FrequentItemValue.content _ _ c.loop-i.slice c.loop-i.map.entries taken c.loop-i.invariant.owned

pub returns-clause-used : goal.returns-clause-used
returns-clause-used g c =
    let taken = items_and_rest g.T.FrequentItemValue.codec c.args.image.now c.args.active c.loop-i.i c.loop-i.slice c.loop-i-test.false c.loop-i.invariant.read in
    omega (arith, ap length c.remaining.ensures, taken, c.requires.weights)
