use Rattle.sketch_frequencies.specs.Image.{late_fault}
use Rattle.datasketches.proofs.Saved.{filter_back, frequent_back, no_limit}
use Rattle.datasketches.proofs.sketch.Sketch.restore.Goals as goal

pub returns-in-Ok-clause-stands : goal.returns-in-Ok-clause-stands
returns-in-Ok-clause-stands g c = rw c.in-Frequent.is (frequent_back g.T.PartialEq.eq g.T.FrequentItemValue.codec g.T.FrequentItemValue.content c.args.bytes.now c.image_laws.ensures.spelled (c.in-Ok.ensures.image, c.in-Ok.ensures.sample) c.in-Ok.ensures.state c.in-Ok.ensures.stands c.in-Ok.ensures.budget)

pub returns-in-Ok-deserialize-clause-stands : goal.returns-in-Ok-deserialize-clause-stands
returns-in-Ok-deserialize-clause-stands g c = rw c.in-Bloom.is (filter_back g.T.PartialEq.eq g.T.FrequentItemValue.codec g.T.FrequentItemValue.content c.args.bytes.now c.image_laws-in-Bloom.ensures.spelled c.in-Ok-deserialize.ensures.image c.in-Ok-deserialize.ensures.state c.in-Ok-deserialize.ensures.stands)

pub returns-in-Err-clause-refused : goal.returns-in-Err-clause-refused
returns-in-Err-clause-refused g c =
    let refused = no_limit _ g.T.FrequentItemValue.codec c.args.bytes.now (late_fault g.T.FrequentItemValue.codec c.args.bytes.now) c.in-Err.error c.in-Err.ensures.err in
    rw c.in-Frequent.is refused
