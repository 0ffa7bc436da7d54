use Rattle.std.proofs.Common.{ℕ, ◌+◌, ◌≤◌, subst}
use Rattle.counter_table.specs.Tables.{sum_of}
use Rattle.datasketches.proofs.Promised.{named_stands}
use Rattle.datasketches.proofs.laws.frequent_items_bounds.Goals as goal

pub returns-clause-state : goal.returns-clause-state
returns-clause-state g c = λ s h is. (named_stands g.T.PartialEq.eq g.T.FrequentItemValue.codec g.T.FrequentItemValue.content _ _ is).state

pub returns-clause-within : goal.returns-clause-within
returns-clause-within g c = λ s h is.
    let keeps = named_stands g.T.PartialEq.eq g.T.FrequentItemValue.codec g.T.FrequentItemValue.content _ _ is in
    subst (λ (t : ℕ). sum_of s.counters + s.error ≤ t) keeps.stands.encloses.total keeps.state.sum

pub returns-clause-few : goal.returns-clause-few
returns-clause-few g c = λ s h is. (named_stands g.T.PartialEq.eq g.T.FrequentItemValue.codec g.T.FrequentItemValue.content _ _ is).few

pub returns-clause-encloses : goal.returns-clause-encloses
returns-clause-encloses g c = λ s h is x.
    let keeps = named_stands g.T.PartialEq.eq g.T.FrequentItemValue.codec g.T.FrequentItemValue.content _ _ is in
    (keeps.stands.encloses.at_least x, keeps.stands.encloses.at_most x)

pub returns-clause-exact : goal.returns-clause-exact
returns-clause-exact g c = λ s h is. (named_stands g.T.PartialEq.eq g.T.FrequentItemValue.codec g.T.FrequentItemValue.content _ _ is).stands.encloses.exact

pub returns-clause-budget : goal.returns-clause-budget
returns-clause-budget g c = λ s h is. (named_stands g.T.PartialEq.eq g.T.FrequentItemValue.codec g.T.FrequentItemValue.content _ _ is).budget

pub returns-clause-sample : goal.returns-clause-sample
returns-clause-sample g c = λ s h is. (named_stands g.T.PartialEq.eq g.T.FrequentItemValue.codec g.T.FrequentItemValue.content _ _ is).stands.sample_size

pub returns-clause-sampled : goal.returns-clause-sampled
returns-clause-sampled g c = λ s h is.
    let keeps = named_stands g.T.PartialEq.eq g.T.FrequentItemValue.codec g.T.FrequentItemValue.content _ _ is in
    c.error_bounds.ensures.sampled s h keeps.stands.encloses keeps.budget

pub returns-clause-small : goal.returns-clause-small
returns-clause-small g c = λ s h is.
    let keeps = named_stands g.T.PartialEq.eq g.T.FrequentItemValue.codec g.T.FrequentItemValue.content _ _ is in
    c.error_bounds.ensures.small s h keeps.stands.encloses keeps.budget

pub returns-clause-large : goal.returns-clause-large
returns-clause-large g c = λ s h is.
    let keeps = named_stands g.T.PartialEq.eq g.T.FrequentItemValue.codec g.T.FrequentItemValue.content _ _ is in
    c.error_bounds.ensures.large s h keeps.stands.encloses keeps.budget
