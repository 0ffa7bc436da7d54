use Rattle.std.proofs.Common.{arith, refl, ap, subst, ◌≡◌, ◌+◌, ◌≤◌, Err, pos, unsigned_abs}
use Rattle.std.proofs.lemmas.Int.{ints}
use Rattle.sketch_countmin.specs.State.{CountState, Joins}
use Rattle.sketch_countmin.specs.Table.{state_of}
use Rattle.sketch_countmin.proofs.Tables.{is_state, state_shown}
use Rattle.sketch_countmin.proofs.Merges.{AllAdded, merged, room_for_other, joins_here, shape_own}
use Rattle.sketch_countmin.proofs.Places.{same_size}
use Rattle.sketch_countmin.proofs.Standing.{stands_joined}
use Rattle.sketch_countmin.proofs.count_min_sketch.CountMinSketch.merge.Given as given
use Rattle.sketch_countmin.proofs.count_min_sketch.CountMinSketch.merge.Goals as goal
use Rattle.sketch_countmin.proofs.count_min_sketch.CountMinSketch.merge.Goals.{After-add_all}

-- the cells are the sums of both
added : (g : given.Over) (c : After-add_all g) → AllAdded c.self.inside.grid.cells c.other.inside.grid.cells c.add_all.new.self.cells
added g c = record { cells = c.add_all.ensures.added }

-- and so is the total
sum : (g : given.Over) (c : After-add_all g) → let number = g.T.CountMinValue.number in number c.in-Some.total ≡ pos (unsigned_abs (number c.self.inside.total) + unsigned_abs (number c.other.inside.total))
sum g c = omega (arith, ints, c.in-Some.ensures.0, c.self.invariant.total_is, c.other.invariant.total_is)

pub returns-then-not-has_shape_of-clause-state : goal.returns-then-not-has_shape_of-clause-state
returns-then-not-has_shape_of-clause-state g c = state_shown _ _ _ _ _ _ _ c.self.view_is c.self.invariant

pub returns-in_default-clause-state : goal.returns-in_default-clause-state
returns-in_default-clause-state g c = state_shown _ _ _ _ _ _ _ c.self.view_is c.self.invariant

pub invariant_of-self : goal.invariant_of-self
invariant_of-self g c =
    let number = g.T.CountMinValue.number in
    let now = (goal.at.invariant_of-self g c).After-add_all in
    let fits : unsigned_abs (number c.in-Some.total) ≤ g.T.CountMinValue.greatest = omega (arith, ints, sum g now, c.in-Some.ensures.0, c.in-Some.ensures.1.1) in
    rw (c.add_all.ensures.shape.row_seeds, c.add_all.ensures.shape.buckets)
    (merged _ _ _ _ (number c.self.inside.total) (number c.in-Some.total) (number c.other.inside.total) c.self.inside.grid.cells c.other.inside.grid.cells _ c.self.invariant c.other.invariant.bounded (added g now) c.add_all.ensures.shape.size (sum g now) fits)

pub returns-clause-joined : goal.returns-clause-joined
returns-clause-joined g c =
    let number = g.T.CountMinValue.number in
    let i = c.self.inside in
    let now = (goal.at.returns-clause-joined g c).After-add_all in
    let new : CountState = state_of i.grid.row_seeds i.grid.buckets i.seed (number c.in-Some.total) c.add_all.new.self.cells in
    rw (c.add_all.ensures.shape.row_seeds, c.add_all.ensures.shape.buckets)
    (subst (λ (s : CountState). Joins s c.args.other.now new) c.self.view_is
    (subst (λ (s : CountState). Joins (state_of i.grid.row_seeds i.grid.buckets i.seed (number i.total) i.grid.cells) s new) c.other.view_is
    (joins_here _ _ _ _ _ _ (number i.total) (number c.in-Some.total) (number c.other.inside.total) i.grid.cells c.other.inside.grid.cells _ (shape_own _ _ _ _ c.self.view_is c.other.view_is (c.if-not-has_shape_of.ensures.0 refl)) (added g now) (ap unsigned_abs (sum g now)))))

pub returns-clause-state : goal.returns-clause-state
returns-clause-state g c = is_state _ _ _ _ _ _ (invariant_of-self g c)

pub returns-clause-stands : goal.returns-clause-stands
returns-clause-stands g c = λ first second s t. stands_joined _ _ _ first second (returns-clause-joined g c) s t

pub add_all-requires-clause-same : goal.add_all-requires-clause-same
add_all-requires-clause-same g c =
    let shape = shape_own _ _ _ _ c.self.view_is c.other.view_is (c.if-not-has_shape_of.ensures.0 refl) in
    same_size _ _ _ _ _ _ c.self.invariant.size c.other.invariant.size shape.hashes shape.buckets

pub add_all-requires-clause-room : goal.add_all-requires-clause-room
add_all-requires-clause-room g c =
    let number = g.T.CountMinValue.number in
    let i = c.self.inside in
    let o = c.other.inside in
    let sum : number c.in-Some.total ≡ pos (unsigned_abs (number i.total) + unsigned_abs (number o.total)) = omega (arith, ints, c.in-Some.ensures.0, c.self.invariant.total_is, c.other.invariant.total_is) in
    let fits : unsigned_abs (number c.in-Some.total) ≤ g.T.CountMinValue.greatest = omega (arith, ints, sum, c.in-Some.ensures.0, c.in-Some.ensures.1.1) in
    room_for_other _ _ _ _ (number i.total) (number c.in-Some.total) (number o.total) i.grid.cells o.grid.cells c.self.invariant c.other.invariant.bounded sum fits

pub returns-then-not-has_shape_of-clause-mismatch : goal.returns-then-not-has_shape_of-clause-mismatch
returns-then-not-has_shape_of-clause-mismatch g c = λ different. ap Err c.invalid_argument.ensures

pub returns-in_default-clause-mismatch : goal.returns-in_default-clause-mismatch
returns-in_default-clause-mismatch g c = λ different. absurd (different (c.if-not-has_shape_of.ensures.0 refl))

pub returns-in_default-clause-overflow : goal.returns-in_default-clause-overflow
returns-in_default-clause-overflow g c = λ same above. ap Err c.invalid_argument-in_default.ensures

pub returns-clause-mismatch : goal.returns-clause-mismatch
returns-clause-mismatch g c = λ different. absurd (different (c.if-not-has_shape_of.ensures.0 refl))

pub returns-in_default-clause-succeeds : goal.returns-in_default-clause-succeeds
returns-in_default-clause-succeeds g c = λ same fits.
    let own : unsigned_abs (g.T.CountMinValue.number c.self.inside.total) ≡ c.args.self.now.total = ap (λ (s : CountState). s.total) c.self.view_is in
    let others : unsigned_abs (g.T.CountMinValue.number c.other.inside.total) ≡ c.args.other.now.total = ap (λ (s : CountState). s.total) c.other.view_is in
    absurd (c.in_default.ensures (omega (arith, ints, g.met.T.CountMinValue.zero_fits, c.self.invariant.total_is, c.other.invariant.total_is), omega (arith, ints, own, others, fits, c.self.invariant.total_is, c.other.invariant.total_is)))

pub returns-then-not-has_shape_of-clause-succeeds : goal.returns-then-not-has_shape_of-clause-succeeds
returns-then-not-has_shape_of-clause-succeeds g c = λ same fits. c.if-not-has_shape_of.ensures.1 same
