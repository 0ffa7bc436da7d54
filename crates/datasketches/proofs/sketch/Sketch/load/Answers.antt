use Rattle.std.proofs.Common.{rules, refl}
use Rattle.counter_table.specs.Bytes.{table_bytes}
use Rattle.datasketches.proofs.Saved.{filter_back, frequent_back, bloom_accepted}
use Rattle.datasketches.proofs.sketch.Sketch.load.Goals as goal

pub returns-in-Err-clause-refused : goal.returns-in-Err-clause-refused
unfolding table_bytes
returns-in-Err-clause-refused g c = search rules

pub returns-in-Ok-clause-within : goal.returns-in-Ok-clause-within
unfolding table_bytes
returns-in-Ok-clause-within g c = c.in-Ok.ensures.within

pub returns-in-Ok-clause-stands : goal.returns-in-Ok-clause-stands
returns-in-Ok-clause-stands g c = rw c.in-Frequent.is (frequent_back g.T.PartialEq.eq g.T.FrequentItemValue.codec g.T.FrequentItemValue.content c.args.bytes.now c.image_laws.ensures.spelled (c.in-Ok.ensures.image, c.in-Ok.ensures.sample) c.in-Ok.ensures.state c.in-Ok.ensures.stands c.in-Ok.ensures.budget)

pub returns-in-Ok-deserialize_with_limit-clause-stands : goal.returns-in-Ok-deserialize_with_limit-clause-stands
returns-in-Ok-deserialize_with_limit-clause-stands g c = rw c.in-Bloom.is (filter_back g.T.PartialEq.eq g.T.FrequentItemValue.codec g.T.FrequentItemValue.content c.args.bytes.now c.image_laws-in-Bloom.ensures.spelled c.in-Ok-deserialize_with_limit.ensures.image c.in-Ok-deserialize_with_limit.ensures.state c.in-Ok-deserialize_with_limit.ensures.stands)

pub returns-in-Ok-deserialize_with_limit-clause-within : goal.returns-in-Ok-deserialize_with_limit-clause-within
returns-in-Ok-deserialize_with_limit-clause-within g c = c.in-Ok-deserialize_with_limit.ensures.within

pub returns-in-Err-deserialize_with_limit-clause-refused : goal.returns-in-Err-deserialize_with_limit-clause-refused
returns-in-Err-deserialize_with_limit-clause-refused g c = rw c.in-Bloom.is c.in-Err-deserialize_with_limit.ensures.err

pub returns-in-Ok-clause-accepted : goal.returns-in-Ok-clause-accepted
unfolding table_bytes
returns-in-Ok-clause-accepted g c = λ ok. rw c.in-Frequent.is (c.in-Ok.ensures.accepted refl)

pub returns-in-Ok-deserialize_with_limit-clause-accepted : goal.returns-in-Ok-deserialize_with_limit-clause-accepted
returns-in-Ok-deserialize_with_limit-clause-accepted g c = λ ok. rw c.in-Bloom.is (bloom_accepted c.args.max_bytes _ _ c.in-Ok-deserialize_with_limit.ensures.image c.in-Ok-deserialize_with_limit.ensures.within)
