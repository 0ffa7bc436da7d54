use Rattle.std.proofs.Common.{arith, refl, sym, ap, ◌∙◌, ◌≡◌, map, length, get_or, ℤ, pos, List, below_more, of_z}
use Rattle.std.specs.Int.{w128}
use Rattle.std.proofs.lemmas.Bool.{false≢true}
use Rattle.std.proofs.lemmas.Int.{ints}
use Rattle.std.proofs.lemmas.List.{ext_get_or, length-map}
use Rattle.sketch_countmin.proofs.RowSteps.{read_cell}
use Rattle.sketch_countmin.proofs.cells.same_cells.Given as given
use Rattle.sketch_countmin.proofs.cells.same_cells.Goals as goal
use Rattle.sketch_countmin.proofs.cells.same_cells.Goals.{After-to_number-in-loop-index}

-- the two numbers are those of the index
first_is : (g : given.Over) (c : After-to_number-in-loop-index g) → get_or (map g.T.CountMinValue.number c.args.first.now) c.loop-index.index (pos 0) ≡ c.to_number.result
first_is g c = read_cell g.T.CountMinValue.number c.args.first.now c.loop-index.index c.index-first-index.result c.loop-index-test.true c.index-first-index.is ∙ sym c.to_number.ensures.value

second_is : (g : given.Over) (c : After-to_number-in-loop-index g) → get_or (map g.T.CountMinValue.number c.args.second.now) c.loop-index.index (pos 0) ≡ c.to_number-in-loop-index.result
second_is g c = read_cell g.T.CountMinValue.number c.args.second.now c.loop-index.index c.index-second-index.result (omega (arith, c.loop-index-test.true, c.if-first-second.false)) c.index-second-index.is ∙ sym c.to_number-in-loop-index.ensures.value

pub returns-then-to_number : goal.returns-then-to_number
returns-then-to_number g c =
    let now = (goal.at.returns-then-to_number g c).After-to_number-in-loop-index in
    (λ h. absurd (false≢true h), λ e. absurd (c.if-to_number.true (ap (of_z w128) (sym (first_is g now) ∙ (ap (λ (l : List ℤ). get_or l c.loop-index.index (pos 0)) e ∙ second_is g now)))))

pub loop-index-preserved : goal.loop-index-preserved
loop-index-preserved g c =
    let now = (goal.at.loop-index-preserved g c).After-to_number-in-loop-index in
    let same : c.to_number.result ≡ c.to_number-in-loop-index.result = omega (arith, ints, c.if-to_number.false, c.to_number.ensures.narrow, c.to_number-in-loop-index.ensures.narrow) in
    below_more _ _ c.loop-index.invariant (first_is g now ∙ (same ∙ sym (second_is g now)))

pub returns : goal.returns
returns g c =
    let num = g.T.CountMinValue.number in
    let long : length (map num c.args.first.now) ≡ length (map num c.args.second.now) = omega (arith, length-map c.args.first.now num, length-map c.args.second.now num, c.if-first-second.false) in
    (λ _. ext_get_or (pos 0) (map num c.args.first.now) (map num c.args.second.now) long (λ k lt. c.loop-index.invariant k (omega (arith, lt, length-map c.args.first.now num, c.loop-index-test.false))), λ _. refl)

pub returns-then-first-second : goal.returns-then-first-second
returns-then-first-second g c =
    let num = g.T.CountMinValue.number in
    (λ h. absurd (false≢true h), λ e. absurd (c.if-first-second.true (sym (length-map c.args.first.now num) ∙ (ap length e ∙ length-map c.args.second.now num))))
