use Rattle.std.proofs.Common.{sym, ap, subst, ◌∙◌, take, List, ℕ}
use Rattle.sketch_countmin.specs.State.{CountState, IsMinCell}
use Rattle.sketch_countmin.proofs.Tables.{state_shown}
use Rattle.sketch_countmin.proofs.Views.{least_of_none, least_of_some}
use Rattle.sketch_countmin.proofs.count_min_view.CountMinView.min_cell.Goals as goal

pub returns-then-is_empty-clause-least : goal.returns-then-is_empty-clause-least
returns-then-is_empty-clause-least g c =
    let i = c.self.inside in
    let input : List ℕ = g.R.Item.bytes c.args.item.now in
    let number = g.T.CountMinValue.number in
    subst (λ (s : CountState). IsMinCell s input (number c.ZERO.result)) c.self.view_is
    (least_of_none g.T.CountMinValue.least g.T.CountMinValue.greatest i.num_hashes (take i.num_hashes i.row_seeds) i.buckets i.seed (number i.total) i.bytes.now input c.self.invariant (sym c.if-is_empty.ensures) (number c.ZERO.result)
    (ap number c.ZERO.ensures ∙ g.met.T.CountMinValue.zero_is))

pub returns-then-is_empty-clause-state : goal.returns-then-is_empty-clause-state
returns-then-is_empty-clause-state g c = state_shown _ _ _ _ _ _ _ c.self.view_is c.self.invariant.table

pub returns-clause-least : goal.returns-clause-least
returns-clause-least g c =
    let i = c.self.inside in
    let input : List ℕ = g.R.Item.bytes c.args.item.now in
    let number = g.T.CountMinValue.number in
    subst (λ (s : CountState). IsMinCell s input (number c.min_cell.result)) c.self.view_is
    (least_of_some g.T.CountMinValue.least g.T.CountMinValue.greatest i.num_hashes (take i.num_hashes i.row_seeds) i.buckets i.seed (number i.total) i.bytes.now input c.self.invariant (sym c.if-is_empty.ensures) c.new-cells.result (number c.min_cell.result)
    c.new-cells.ensures (rw (c.new.ensures.cells, c.new.ensures.buckets, c.new.ensures.seeds) at c.min_cell.ensures))

pub returns-clause-state : goal.returns-clause-state
returns-clause-state g c = state_shown _ _ _ _ _ _ _ c.self.view_is c.self.invariant.table
