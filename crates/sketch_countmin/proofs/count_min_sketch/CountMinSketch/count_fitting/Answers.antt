use Rattle.std.proofs.Common.{arith, ap, subst, ◌∙◌, ◌≡◌, ℕ, ◌+◌, ◌≤◌, map, length, ℤ, pos, unsigned_abs, to_z, of_z, ◌+ℤ◌, List}
use Rattle.std.specs.Int.{w128}
use Rattle.std.proofs.lemmas.Int.{ints}
use Rattle.std.proofs.lemmas.List.{length-map}
use Rattle.sketch_base.specs.Hashes.{fed_bytes}
use Rattle.sketch_countmin.specs.State.{CountState, CountsAll}
use Rattle.sketch_countmin.specs.Table.{state_of}
use Rattle.sketch_countmin.proofs.Places.{room_for_items}
use Rattle.sketch_countmin.proofs.Numbers.{gain_fits, gain_is}
use Rattle.sketch_countmin.proofs.Tables.{is_state}
use Rattle.sketch_countmin.proofs.BatchUpdates.{all_counted, counts_all_here}
use Rattle.sketch_countmin.proofs.count_min_sketch.CountMinSketch.count_fitting.Given as given
use Rattle.sketch_countmin.proofs.count_min_sketch.CountMinSketch.count_fitting.Goals as goal
use Rattle.sketch_countmin.proofs.count_min_sketch.CountMinSketch.count_fitting.Goals.{After-count_each, After-to_number}

-- the bytes of all items
abbrev fed : (g : given.Over) → After-count_each g → List (List ℕ)
fed g c = map (fed_bytes g.I.Hash.hash_input) c.args.items.now

-- the new total, which has room for them
total : (g : given.Over) (c : After-count_each g) (t : ℤ) → let number = g.T.CountMinValue.number in
    t ≡ pos (unsigned_abs (number c.self.inside.total) + length c.args.items.now) → (t ≡ pos (unsigned_abs (number c.self.inside.total) + length (fed g c))) × (unsigned_abs t ≤ g.T.CountMinValue.greatest)
total g c t e =
    let own : unsigned_abs (g.T.CountMinValue.number c.self.inside.total) ≡ c.args.self.now.total = ap (λ (s : CountState). s.total) c.self.view_is in
    (omega (arith, ints, e, length-map c.args.items.now (fed_bytes g.I.Hash.hash_input)), omega (arith, ints, e, own, c.requires))

-- what the code computes, without the casts
gain : (g : given.Over) (c : After-to_number g) → to_z w128 (of_z w128 (to_z w128 (of_z w128 c.to_number.result) +ℤ to_z w128 (length c.args.items.now))) ≡ pos (unsigned_abs (g.T.CountMinValue.number c.self.inside.total) + length c.args.items.now)
gain g c = gain_is c.to_number.result _ _ (c.to_number.ensures.value ∙ c.self.invariant.total_is) c.to_number.ensures.narrow (omega arith)

pub invariant_of-self : goal.invariant_of-self
invariant_of-self g c =
    let number = g.T.CountMinValue.number in
    let i = c.self.inside in
    let now = (goal.at.invariant_of-self g c).After-count_each in
    let sum = total g now (number c.from_number_in_range-self-inside.result) (c.from_number_in_range-self-inside.ensures ∙ gain g (goal.at.invariant_of-self g c).After-to_number) in
    rw (c.count_each.ensures.shape.row_seeds, c.count_each.ensures.shape.buckets)
    (all_counted _ _ _ _ (number i.total) (number c.from_number_in_range-self-inside.result) i.grid.cells _ _ (fed g now) c.self.invariant c.count_each.ensures.counted c.count_each.ensures.shape.size sum.0 sum.1)

pub returns-clause-counted : goal.returns-clause-counted
returns-clause-counted g c =
    let number = g.T.CountMinValue.number in
    let i = c.self.inside in
    let now = (goal.at.returns-clause-counted g c).After-count_each in
    let sum = total g now (number c.from_number_in_range-self-inside.result) (c.from_number_in_range-self-inside.ensures ∙ gain g (goal.at.returns-clause-counted g c).After-to_number) in
    rw (c.count_each.ensures.shape.row_seeds, c.count_each.ensures.shape.buckets)
    (subst (λ (s : CountState). CountsAll s (fed g now) (state_of i.grid.row_seeds i.grid.buckets i.seed (number c.from_number_in_range-self-inside.result) c.count_each.new.self.cells)) c.self.view_is
    (counts_all_here _ _ _ _ (number i.total) (number c.from_number_in_range-self-inside.result) i.grid.cells _ (fed g now) c.self.invariant c.count_each.ensures.counted (ap unsigned_abs sum.0)))

pub returns-clause-state : goal.returns-clause-state
returns-clause-state g c = is_state _ _ _ _ _ _ (invariant_of-self g c)

pub count_each-requires : goal.count_each-requires
count_each-requires g c =
    record { room = room_for_items _ _ (unsigned_abs (g.T.CountMinValue.number c.self.inside.total)) c.args.self.now.total c.self.inside.grid.cells c.self.invariant.bounded (ap (λ (s : CountState). s.total) c.self.view_is) c.requires }

pub from_number_in_range-self-inside-requires : goal.from_number_in_range-self-inside-requires
from_number_in_range-self-inside-requires g c =
    let own : unsigned_abs (g.T.CountMinValue.number c.self.inside.total) ≡ c.args.self.now.total = ap (λ (s : CountState). s.total) c.self.view_is in
    rw (gain g c) (omega (arith, ints, g.met.T.CountMinValue.zero_fits), omega (arith, ints, own, c.requires))

pub overflow_add-to_number : goal.overflow_add-to_number
overflow_add-to_number g c = gain_fits c.to_number.result (length c.args.items.now) c.to_number.ensures.narrow (omega arith)
