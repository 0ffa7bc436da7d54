use Rattle.std.proofs.Common.{arith, subst, sym, ap, ◌∙◌, ◌≡◌, ℕ, ◌*◌, length, replicate, pos}
use Rattle.sketch_countmin.specs.State.{CountState, empty_state}
use Rattle.sketch_countmin.specs.History.CountHistory.{New}
use Rattle.sketch_countmin.specs.Stands.{StandsFor}
use Rattle.sketch_countmin.proofs.Tables.{is_state, shape_is, empty_is, empty_value}
use Rattle.sketch_countmin.proofs.Standing.{stands_empty}
use Rattle.sketch_countmin.proofs.count_min_sketch.CountMinSketch.empty.Given as given
use Rattle.sketch_countmin.proofs.count_min_sketch.CountMinSketch.empty.Goals as goal
use Rattle.sketch_countmin.proofs.count_min_sketch.CountMinSketch.empty.Goals.{After-ZERO}

-- there is a zero for each cell
cells : (g : given.Over) (c : After-ZERO g) → let grid = c.in_ok-grid.grid in grid.cells ≡ replicate (length grid.row_seeds * grid.buckets) (pos 0)
cells g c =
    let new = c.in_ok-grid.ensures in
    new.cells_are ∙ (c.in_ok-counts.ensures ∙ ap (λ (n : ℕ). replicate n (pos 0)) (sym (ap (λ (k : ℕ). k * c.in_ok-grid.grid.buckets) new.height ∙ ap (λ (n : ℕ). c.args.num_hashes * n) new.width)))

-- the total is zero
total : (g : given.Over) (c : After-ZERO g) → g.T.CountMinValue.number c.ZERO.result ≡ pos 0
total g c = ap g.T.CountMinValue.number c.ZERO.ensures ∙ g.met.T.CountMinValue.zero_is

pub returns-clause-ok : goal.returns-clause-ok
returns-clause-ok g c =
    let now = (goal.at.returns-clause-ok g c).After-ZERO in
    empty_value _ c.args.num_hashes c.in_ok-grid.grid.buckets c.args.seed _ _ c.in_ok-grid.ensures.height (total g now) (cells g now) ∙ ap (λ (n : ℕ). empty_state c.args.num_hashes n c.args.seed) c.in_ok-grid.ensures.width

pub invariant_of-result : goal.invariant_of-result
invariant_of-result g c =
    let now = (goal.at.invariant_of-result g c).After-ZERO in
    let shape = shape_is _ _ c.args.seed _ _ c.in_ok-grid.ensures.height c.in_ok-grid.ensures.width c.requires.some_hashes (omega arith) c.requires.some_buckets c.requires.few_cells c.requires.seeded c.in_ok-grid.ensures.seeds in
    empty_is g.T.CountMinValue.greatest _ _ c.args.seed _ _ shape (total g now) (cells g now)

pub returns-clause-state : goal.returns-clause-state
returns-clause-state g c = is_state _ _ _ _ _ _ (invariant_of-result g c)

pub returns-clause-stands : goal.returns-clause-stands
returns-clause-stands g c = subst (λ (s : CountState). StandsFor s (New c.args.num_hashes c.args.num_buckets c.args.seed)) (sym (returns-clause-ok g c)) (stands_empty c.args.num_hashes c.args.num_buckets c.args.seed)
