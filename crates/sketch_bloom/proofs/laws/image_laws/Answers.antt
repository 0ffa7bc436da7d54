use Rattle.std.proofs.Common.{sym, ◌∙◌, refl}
use Rattle.sketch_bloom.specs.Image.{value_at}
use Rattle.sketch_bloom.proofs.RoundTrips.{spelled_is_image, spelled_is_front}
use Rattle.sketch_bloom.proofs.laws.image_laws.Goals as goal

pub returns-clause-spelled : goal.returns-clause-spelled
returns-clause-spelled c = spelled_is_image

pub returns-clause-front : goal.returns-clause-front
returns-clause-front c = spelled_is_front

pub returns-clause-one : goal.returns-clause-one
returns-clause-one c = λ image a b one other. one.value ∙ sym other.value

pub returns-clause-some : goal.returns-clause-some
returns-clause-some c = λ image. (λ p. p.1.no_fault, λ e. (value_at image, record { no_fault = e; value = refl }))
