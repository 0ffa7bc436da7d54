use Rattle.datasketches.proofs.Promised.{named_stands, contains_denoted}
use Rattle.datasketches.proofs.laws.bloom_filter_membership.Goals as goal

pub returns : goal.returns
returns g c = record {
  state = λ s h is. (named_stands g.T.PartialEq.eq g.T.FrequentItemValue.codec g.T.FrequentItemValue.content _ _ is).state;
  set = λ s h is. (named_stands g.T.PartialEq.eq g.T.FrequentItemValue.codec g.T.FrequentItemValue.content _ _ is).stands.set;
  empty = λ s h is none bytes. c.membership.ensures.empty s bytes (named_stands g.T.PartialEq.eq g.T.FrequentItemValue.codec g.T.FrequentItemValue.content _ _ is).state none;
  denoted = λ s h is bytes. contains_denoted s h bytes (named_stands g.T.PartialEq.eq g.T.FrequentItemValue.codec g.T.FrequentItemValue.content _ _ is).stands.set;
}
