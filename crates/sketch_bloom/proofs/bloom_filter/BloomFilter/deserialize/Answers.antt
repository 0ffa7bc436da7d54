use Rattle.sketch_bloom.proofs.bloom_filter.BloomFilter.deserialize.Goals as goal

pub returns-clause-image : goal.returns-clause-image
returns-clause-image c = c.deserialize_with_limit.ensures.image

pub returns-clause-state : goal.returns-clause-state
returns-clause-state c = c.deserialize_with_limit.ensures.state

pub returns-clause-stands : goal.returns-clause-stands
returns-clause-stands c = c.deserialize_with_limit.ensures.stands
