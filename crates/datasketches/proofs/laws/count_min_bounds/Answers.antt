use Rattle.std.proofs.Common.{◌∙◌}
use Rattle.datasketches.proofs.Promised.{named_stands, counted_stands, counted_state, counted_buckets}
use Rattle.datasketches.specs.Histories.History.{OfCountI64, OfCountU64}
use Rattle.datasketches.specs.declared.sketch.Sketch.TheVariants.{CountI64, CountU64}
use Rattle.datasketches.proofs.laws.count_min_bounds.Goals as goal

pub returns-clause-state : goal.returns-clause-state
returns-clause-state g c = λ s h. (
  λ is. (named_stands g.T.PartialEq.eq g.T.FrequentItemValue.codec g.T.FrequentItemValue.content (CountI64 s) (OfCountI64 h) is).state,
  λ is. (named_stands g.T.PartialEq.eq g.T.FrequentItemValue.codec g.T.FrequentItemValue.content (CountU64 s) (OfCountU64 h) is).state,
)

pub returns-clause-total : goal.returns-clause-total
returns-clause-total g c = λ s h is. (counted_stands g.T.PartialEq.eq g.T.FrequentItemValue.codec g.T.FrequentItemValue.content s h is).total

pub returns-clause-empty : goal.returns-clause-empty
returns-clause-empty g c = λ s h is none.
    let state = counted_state g.T.PartialEq.eq g.T.FrequentItemValue.codec g.T.FrequentItemValue.content s h is in
    c.min_cell_bounds.ensures.empty state.0 s state.1 ((counted_stands g.T.PartialEq.eq g.T.FrequentItemValue.codec g.T.FrequentItemValue.content s h is).total ∙ none)

pub returns-clause-cells : goal.returns-clause-cells
returns-clause-cells g c = λ s h is. (counted_stands g.T.PartialEq.eq g.T.FrequentItemValue.codec g.T.FrequentItemValue.content s h is).cells

pub returns-clause-raised : goal.returns-clause-raised
returns-clause-raised g c = λ s h is exact bytes least lowest.
    c.min_cell_bounds.ensures.raised s h bytes least (counted_buckets g.T.PartialEq.eq g.T.FrequentItemValue.codec g.T.FrequentItemValue.content s h is) (counted_stands g.T.PartialEq.eq g.T.FrequentItemValue.codec g.T.FrequentItemValue.content s h is) exact lowest
