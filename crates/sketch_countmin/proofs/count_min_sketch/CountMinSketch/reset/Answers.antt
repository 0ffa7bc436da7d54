use Rattle.std.proofs.Common.{◌≡◌, ℕ, ◌*◌, length, replicate, pos, refl, subst, sym, ap, ◌∙◌}
use Rattle.sketch_countmin.specs.History.CountHistory.{New}
use Rattle.sketch_countmin.specs.Stands.{StandsFor}
use Rattle.sketch_countmin.specs.State.{CountState, empty_state}
use Rattle.sketch_countmin.proofs.Standing.{stands_empty}
use Rattle.sketch_countmin.proofs.Tables.{is_state, empty_is, empty_value}
use Rattle.sketch_countmin.proofs.count_min_sketch.CountMinSketch.reset.Given as given
use Rattle.sketch_countmin.proofs.count_min_sketch.CountMinSketch.reset.Goals as goal
use Rattle.sketch_countmin.proofs.count_min_sketch.CountMinSketch.reset.Goals.{After-ZERO-self-inside}

-- the total is zero
total : (g : given.Over) (c : After-ZERO-self-inside g) → g.T.CountMinValue.number c.ZERO-self-inside.result ≡ pos 0
total g c = ap g.T.CountMinValue.number c.ZERO-self-inside.ensures ∙ g.met.T.CountMinValue.zero_is

-- there is a zero for each cell
cells : (g : given.Over) (c : After-ZERO-self-inside g) → let grid = c.self.inside.grid in
    replicate (length grid.cells) (pos 0) ≡ replicate (length grid.row_seeds * grid.buckets) (pos 0)
cells g c = ap (λ (n : ℕ). replicate n (pos 0)) c.self.invariant.size

pub invariant_of-self : goal.invariant_of-self
invariant_of-self g c =
    let i = c.self.inside in
    let now = (goal.at.invariant_of-self g c).After-ZERO-self-inside in
    rw c.clear.ensures (empty_is g.T.CountMinValue.greatest _ _ i.seed _ _ c.self.invariant.shape (total g now) (cells g now))

pub returns-clause-cleared : goal.returns-clause-cleared
returns-clause-cleared g c =
    let i = c.self.inside in
    let now = (goal.at.returns-clause-cleared g c).After-ZERO-self-inside in
    rw c.clear.ensures
    (empty_value i.grid.row_seeds (length i.grid.row_seeds) i.grid.buckets i.seed _ _ refl (total g now) (cells g now)
    ∙ ap (λ (s : CountState). empty_state s.hashes s.buckets s.seed) c.self.view_is)

pub returns-clause-state : goal.returns-clause-state
returns-clause-state g c = is_state _ _ _ _ _ _ (invariant_of-self g c)

pub returns-clause-stands : goal.returns-clause-stands
returns-clause-stands g c =
    let s = c.args.self.now in
    subst (λ (t : CountState). StandsFor t (New s.hashes s.buckets s.seed)) (sym (returns-clause-cleared g c)) (stands_empty s.hashes s.buckets s.seed)
