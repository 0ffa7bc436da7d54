use Rattle.datasketches.proofs.Promised.{named_stands, counted_stands}
use Rattle.datasketches.proofs.Taking.{process_stands}
use Rattle.datasketches.proofs.laws.clusters_keep_histories.Goals as goal

pub returns-clause-fits : goal.returns-clause-fits
returns-clause-fits g c = λ p is. process_stands _ g.T.PartialEq.eq g.T.Hash.hash_input g.T.FrequentItemValue.codec g.T.FrequentItemValue.content p is

pub returns-clause-encloses : goal.returns-clause-encloses
returns-clause-encloses g c = λ s h is. c.stream_bounds.ensures.encloses s h (named_stands g.T.PartialEq.eq g.T.FrequentItemValue.codec g.T.FrequentItemValue.content _ _ is).stands.encloses

pub returns-clause-budget : goal.returns-clause-budget
returns-clause-budget g c = λ s h is. c.stream_bounds.ensures.budget s h (named_stands g.T.PartialEq.eq g.T.FrequentItemValue.codec g.T.FrequentItemValue.content _ _ is).budget

pub returns-clause-cells : goal.returns-clause-cells
returns-clause-cells g c = λ s h is. c.stream_cells.ensures s h (counted_stands g.T.PartialEq.eq g.T.FrequentItemValue.codec g.T.FrequentItemValue.content s h is)

pub returns-clause-contains : goal.returns-clause-contains
returns-clause-contains g c = λ s part h stream is of_part.
    let all = named_stands g.T.PartialEq.eq g.T.FrequentItemValue.codec g.T.FrequentItemValue.content _ _ is in
    let own = named_stands g.T.PartialEq.eq g.T.FrequentItemValue.codec g.T.FrequentItemValue.content _ _ of_part in
    c.parts_are_contained.ensures s part h stream all.stands own.stands
