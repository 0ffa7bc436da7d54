use Rattle.sketch_frequencies.proofs.Existence.{image_is_of_some}
use Rattle.sketch_frequencies.proofs.Images.{image_is_of_one}
use Rattle.sketch_frequencies.proofs.RoundTrips.{spelled_is_image, spelled_is_front}
use Rattle.sketch_frequencies.proofs.laws.image_laws.Goals as goal

pub returns-clause-spelled : goal.returns-clause-spelled
returns-clause-spelled g c = spelled_is_image g.T.FrequentItemValue.codec g.met.T.FrequentItemValue.lawful

pub returns-clause-front : goal.returns-clause-front
returns-clause-front g c = spelled_is_front g.T.FrequentItemValue.codec g.met.T.FrequentItemValue.lawful

pub returns-clause-one : goal.returns-clause-one
returns-clause-one g c = image_is_of_one g.T.FrequentItemValue.codec g.met.T.FrequentItemValue.lawful.equivalence

pub returns-clause-some : goal.returns-clause-some
returns-clause-some g c = λ image. (λ p. p.1.no_fault, λ e. image_is_of_some g.T.FrequentItemValue.codec g.met.T.FrequentItemValue.lawful image e)

pub returns-clause-within : goal.returns-clause-within
returns-clause-within g c = λ image s is. is.state.sum
