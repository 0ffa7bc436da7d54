use Rattle.std.proofs.Common.{◌≡◌, Result, Ok, Err, Option, None, sym, ◌∙◌, inl, inr, List, ℕ, subst}
use Rattle.std.specs.Prelude.{IfOk, IfErr}
use Rattle.sketch_base.specs.Checks.{IsImageRefusal}
use Rattle.sketch_base.specs.Errors.{ErrorValue, no_memory}
use Rattle.sketch_base.specs.declared.fault.Fault.{Fault}
use Rattle.sketch_bloom.specs.Image.{IsImage, first_fault}
use Rattle.sketch_bloom.specs.State.{FilterState}
use Rattle.sketch_bloom.proofs.RoundTrips.{spelled_is_image}
use Rattle.sketch_bloom.proofs.laws.restored.Goals as goal
use Rattle.sketch_bloom.proofs.laws.restored.Goals.{After-deserialize}

-- the bytes are an image of one filter alone
same_filter : {E : Type 0} (image : List ℕ) (s : FilterState) (r : Result FilterState E) → IsImage image s → IfOk r (λ filter. IsImage image filter) → IfOk r (λ copy. copy ≡ s)
same_filter image s (Ok filter) was is = is.value ∙ sym was.value
same_filter image s (Err e) was is = is

-- no check fails, so that only memory can be refused
only_memory : {A : Type 0} (before whole : Option Fault) (r : Result A ErrorValue) → whole ≡ None → IfErr r (IsImageRefusal before whole) → IfErr r (λ e. e ≡ no_memory)
only_memory before whole (Ok x) none h = h
only_memory before whole (Err e) none (inl h) = h.0
only_memory before whole (Err e) none (inr h) = cc (sym none ∙ h.1)

-- the bytes are an image of the filter
own_image : (c : After-deserialize) → IsImage c.deref.result.now c.args.filter.now
own_image c = subst (λ bytes. IsImage bytes c.args.filter.now) (sym c.deref.ensures.value) (spelled_is_image c.in_ok-image.image.items c.args.filter.now c.in_ok-image.ensures.image)

pub returns-clause-same : goal.returns-clause-same
returns-clause-same c = same_filter c.deref.result.now c.args.filter.now c.deserialize.result (own_image (goal.at.returns-clause-same c).After-deserialize) c.deserialize.ensures.image

pub returns-clause-err : goal.returns-clause-err
returns-clause-err c = only_memory _ (first_fault c.deref.result.now) c.deserialize.result (own_image (goal.at.returns-clause-err c).After-deserialize).no_fault c.deserialize.ensures.err
