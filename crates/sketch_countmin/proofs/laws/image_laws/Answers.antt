use Rattle.std.proofs.Common.{sym, ◌∙◌, refl, subst}
use Rattle.sketch_countmin.specs.Image.{value_at}
use Rattle.sketch_countmin.specs.State.{CountState, IsCountState}
use Rattle.sketch_countmin.proofs.Images.{state_at}
use Rattle.sketch_countmin.proofs.RoundTrips.{spelled_is_image, spelled_is_front}
use Rattle.sketch_countmin.proofs.laws.image_laws.Goals as goal

pub returns-clause-one : goal.returns-clause-one
returns-clause-one g c = λ seed image a b one other. one.value ∙ sym other.value

pub returns-clause-some : goal.returns-clause-some
returns-clause-some g c = λ seed image. (λ p. p.1.no_fault, λ e. (value_at g.T.CountMinValue.least seed image, record { no_fault = e; value = refl }))

pub returns-clause-spelled : goal.returns-clause-spelled
returns-clause-spelled g c = spelled_is_image g.T.CountMinValue.least g.T.CountMinValue.greatest g.met.T.CountMinValue.zero_fits g.met.T.CountMinValue.bytes_fit

pub returns-clause-within_limits : goal.returns-clause-within_limits
returns-clause-within_limits g c = λ seed image a bytes is. subst (λ (s : CountState). IsCountState g.T.CountMinValue.greatest s) (sym is.value) (state_at g.T.CountMinValue.least g.T.CountMinValue.greatest seed image bytes is.no_fault)

pub returns-clause-front : goal.returns-clause-front
returns-clause-front g c = spelled_is_front g.T.CountMinValue.least g.T.CountMinValue.greatest g.met.T.CountMinValue.zero_fits g.met.T.CountMinValue.bytes_fit
