use Rattle.std.proofs.Common.{arith, subst, ℕ, ◌-◌, map, take, List, ap, Err}
use Rattle.std.proofs.lemmas.List.{length-take}
use Rattle.sketch_base.specs.Hashes.{fed_bytes}
use Rattle.sketch_countmin.specs.State.{CountsAll}
use Rattle.sketch_countmin.proofs.BatchUpdates.{stands_all, items_that_fit}
use Rattle.sketch_countmin.proofs.count_min_sketch.CountMinSketch.update_slice.Given as given
use Rattle.sketch_countmin.proofs.count_min_sketch.CountMinSketch.update_slice.Goals as goal
use Rattle.sketch_countmin.proofs.count_min_sketch.CountMinSketch.update_slice.Goals.{After-count_fitting}

-- the items that fit are counted
counted : (g : given.Over) (c : After-count_fitting g) → CountsAll c.args.self.now (take (g.T.CountMinValue.greatest - c.args.self.now.total) (map (fed_bytes g.I.Hash.hash_input) c.args.items.now)) c.count_fitting.new.self
counted g c =
    subst (λ (items : List (List ℕ)). CountsAll c.args.self.now items c.count_fitting.new.self)
    (items_that_fit (fed_bytes g.I.Hash.hash_input) c.args.items.now c.args.self.now.total g.T.CountMinValue.greatest c.room.result c.min-fitting.result c.room.ensures c.min-fitting.ensures)
    c.count_fitting.ensures.counted

pub count_fitting-requires : goal.count_fitting-requires
count_fitting-requires g c = omega (arith, c.room.ensures, c.min-fitting.ensures, length-take c.min-fitting.result c.args.items.now)

pub returns-then-fitting-items-clause-counted : goal.returns-then-fitting-items-clause-counted
returns-then-fitting-items-clause-counted g c = counted g (goal.at.returns-then-fitting-items-clause-counted g c).After-count_fitting

pub returns-then-fitting-items-clause-stands : goal.returns-then-fitting-items-clause-stands
returns-then-fitting-items-clause-stands g c = λ h. stands_all _ _ _ h (counted g (goal.at.returns-then-fitting-items-clause-stands g c).After-count_fitting)

pub returns-clause-counted : goal.returns-clause-counted
returns-clause-counted g c = counted g (goal.at.returns-clause-counted g c).After-count_fitting

pub returns-clause-stands : goal.returns-clause-stands
returns-clause-stands g c = λ h. stands_all _ _ _ h (counted g (goal.at.returns-clause-stands g c).After-count_fitting)

pub returns-then-fitting-items-clause-state : goal.returns-then-fitting-items-clause-state
returns-then-fitting-items-clause-state g c = c.count_fitting.ensures.state

pub returns-then-fitting-items-clause-overflow : goal.returns-then-fitting-items-clause-overflow
returns-then-fitting-items-clause-overflow g c = λ above. ap Err c.invalid_argument.ensures

pub returns-clause-state : goal.returns-clause-state
returns-clause-state g c = c.count_fitting.ensures.state
