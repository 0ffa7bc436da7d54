use Rattle.std.proofs.Common.{arith, ap, subst, sym, refl, ◌∙◌, ◌≡◌, ℕ, ◌+◌, ◌≤◌, ℤ, pos, unsigned_abs, List}
use Rattle.std.proofs.lemmas.Int.{ints}
use Rattle.std.proofs.lemmas.Result.{IfOk-from_err, err_from_is_err_and}
use Rattle.sketch_countmin.specs.State.{CountState, Counts}
use Rattle.sketch_countmin.specs.Table.{state_of}
use Rattle.sketch_countmin.proofs.Tables.{is_state, state_shown}
use Rattle.sketch_countmin.proofs.Updates.{room_here, updated, counts_here, uncounted}
use Rattle.sketch_countmin.proofs.Standing.{stands_counted}
use Rattle.sketch_countmin.proofs.count_min_sketch.CountMinSketch.update_item_with_weight.Given as given
use Rattle.sketch_countmin.proofs.count_min_sketch.CountMinSketch.update_item_with_weight.Goals as goal
use Rattle.sketch_countmin.proofs.count_min_sketch.CountMinSketch.update_item_with_weight.Goals.{After-add_to}

-- the new total, by the old one of the parts
total_sum : (s u : CountState) (w t : ℤ) → s ≡ u → t ≡ pos (u.total + unsigned_abs w) → t ≡ pos (s.total + unsigned_abs w)
total_sum s u w t e h = h ∙ ap (λ (v : CountState). pos (v.total + unsigned_abs w)) (sym e)

-- the total has the weight added
sum : (g : given.Over) (c : After-add_to g) → let number = g.T.CountMinValue.number in number c.in_ok-total.total ≡ pos (unsigned_abs (number c.self.inside.total) + unsigned_abs (number c.args.weight))
sum g c = total_sum _ _ (g.T.CountMinValue.number c.args.weight) _ c.self.view_is c.in_ok-total.ensures.sum

fits : (g : given.Over) (c : After-add_to g) → unsigned_abs (g.T.CountMinValue.number c.in_ok-total.total) ≤ g.T.CountMinValue.greatest
fits g c = omega (arith, ints, c.in_ok-total.ensures.sum, c.in_ok-total.ensures.fits)

pub add_to-requires : goal.add_to-requires
add_to-requires g c =
    let number = g.T.CountMinValue.number in
    let i = c.self.inside in
    let w : ℤ = number c.args.weight in
    let t : ℤ = number c.in_ok-total.total in
    let sum : t ≡ pos (unsigned_abs (number i.total) + unsigned_abs w) = total_sum _ _ w t c.self.view_is c.in_ok-total.ensures.sum in
    let fits : unsigned_abs t ≤ g.T.CountMinValue.greatest = omega (arith, ints, c.in_ok-total.ensures.sum, c.in_ok-total.ensures.fits) in
    room_here _ _ _ _ (number i.total) t i.grid.cells w c.self.invariant sum fits

pub invariant_of-self : goal.invariant_of-self
invariant_of-self g c =
    let number = g.T.CountMinValue.number in
    let i = c.self.inside in
    let now = (goal.at.invariant_of-self g c).After-add_to in
    rw (c.add_to.ensures.shape.row_seeds, c.add_to.ensures.shape.buckets)
    (updated _ _ _ _ (number i.total) (number c.in_ok-total.total) i.grid.cells _ _ (number c.args.weight) c.self.invariant c.add_to.ensures.added c.add_to.ensures.shape.size (sum g now) (fits g now))

pub returns-clause-counted : goal.returns-clause-counted
returns-clause-counted g c =
    let number = g.T.CountMinValue.number in
    let i = c.self.inside in
    let bytes : List ℕ = g.R.Item.bytes c.args.item in
    let now = (goal.at.returns-clause-counted g c).After-add_to in
    rw (c.add_to.ensures.shape.row_seeds, c.add_to.ensures.shape.buckets)
    (subst (λ (s : CountState). Counts s bytes (number c.args.weight) (state_of i.grid.row_seeds i.grid.buckets i.seed (number c.in_ok-total.total) c.add_to.new.grid.cells)) c.self.view_is
    (counts_here _ _ _ _ (number i.total) (number c.in_ok-total.total) i.grid.cells _ bytes (number c.args.weight) c.self.invariant c.add_to.ensures.added (ap unsigned_abs (sum g now))))

pub returns-clause-state : goal.returns-clause-state
returns-clause-state g c = is_state _ _ _ _ _ _ (invariant_of-self g c)

pub returns-clause-stands : goal.returns-clause-stands
returns-clause-stands g c = λ h s. stands_counted _ _ (g.R.Item.bytes c.args.item) (g.T.CountMinValue.number c.args.weight) h (returns-clause-counted g c) s

pub returns-then-to_number-eq0-clause-counted : goal.returns-then-to_number-eq0-clause-counted
returns-then-to_number-eq0-clause-counted g c = uncounted _ (g.R.Item.bytes c.args.item) (g.T.CountMinValue.number c.args.weight) (omega (arith, ints, c.if-to_number-eq0.true, c.to_number.ensures.value, c.to_number.ensures.narrow))

pub returns-then-to_number-eq0-clause-state : goal.returns-then-to_number-eq0-clause-state
returns-then-to_number-eq0-clause-state g c = state_shown _ _ _ _ _ _ _ c.self.view_is c.self.invariant

pub returns-then-to_number-eq0-clause-stands : goal.returns-then-to_number-eq0-clause-stands
returns-then-to_number-eq0-clause-stands g c = λ h s. stands_counted _ _ (g.R.Item.bytes c.args.item) (g.T.CountMinValue.number c.args.weight) h (returns-then-to_number-eq0-clause-counted g c) s

pub returns-in_err-total-clause-counted : goal.returns-in_err-total-clause-counted
returns-in_err-total-clause-counted g c = IfOk-from_err c.from_residual.result _ c.from_residual.ensures.0

pub returns-in_err-total-clause-stands : goal.returns-in_err-total-clause-stands
returns-in_err-total-clause-stands g c = IfOk-from_err c.from_residual.result _ c.from_residual.ensures.0

-- said here so that a body that changed the sketch before is refused at once
pub returns-in_err-total-clause-err : goal.returns-in_err-total-clause-err
returns-in_err-total-clause-err g c =
    let p = err_from_is_err_and c.from_residual.result c.from_residual.ensures.1 in
    rw p.1 refl

pub returns-in_err-total-clause-zero : goal.returns-in_err-total-clause-zero
returns-in_err-total-clause-zero g c = λ zero. absurd (omega (arith, ints, zero, c.in_err-total.ensures.overflow, c.in_err-total.ensures.state.fits))

pub returns-in_err-total-clause-succeeds : goal.returns-in_err-total-clause-succeeds
returns-in_err-total-clause-succeeds g c = λ fits. absurd (omega (arith, fits, c.in_err-total.ensures.overflow))

pub returns-then-to_number-eq0-clause-zero : goal.returns-then-to_number-eq0-clause-zero
returns-then-to_number-eq0-clause-zero g c = λ _. (refl, refl)
