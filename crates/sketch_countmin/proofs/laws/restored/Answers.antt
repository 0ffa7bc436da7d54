use Rattle.std.proofs.Common.{◌≡◌, ℕ, ℤ, Result, Ok, Err, Option, None, sym, ◌∙◌, inl, inr, List, subst}
use Rattle.std.specs.Prelude.{IfOk, IfErr}
use Rattle.sketch_base.specs.Checks.{IsImageRefusal}
use Rattle.sketch_base.specs.Errors.{ErrorValue, no_memory}
use Rattle.sketch_base.specs.declared.fault.Fault.{Fault}
use Rattle.sketch_countmin.specs.Image.{IsImage, first_fault}
use Rattle.sketch_countmin.specs.State.{CountState}
use Rattle.sketch_countmin.proofs.RoundTrips.{spelled_is_image}
use Rattle.sketch_countmin.proofs.laws.restored.Given as given
use Rattle.sketch_countmin.proofs.laws.restored.Goals as goal
use Rattle.sketch_countmin.proofs.laws.restored.Goals.{After-deserialize_with_seed}

-- the bytes are an image of one sketch alone
same_sketch : {E : Type 0} (least : ℤ) (greatest seed : ℕ) (image : List ℕ) (s : CountState) (r : Result CountState E) → IsImage least greatest seed image s → IfOk r (λ sketch. IsImage least greatest seed image sketch) → IfOk r (λ copy. copy ≡ s)
same_sketch least greatest seed image s (Ok sketch) was is = is.value ∙ sym was.value
same_sketch least greatest seed image s (Err e) was is = is

-- no check fails, so that only memory can be refused
only_memory : {A : Type 0} (before whole : Option Fault) (r : Result A ErrorValue) → whole ≡ None → IfErr r (IsImageRefusal before whole) → IfErr r (λ e. e ≡ no_memory)
only_memory before whole (Ok x) none h = h
only_memory before whole (Err e) none (inl h) = h.0
only_memory before whole (Err e) none (inr h) = cc (sym none ∙ h.1)

-- the bytes are an image of the sketch, under the seed that it answers
own_image : (g : given.Over) (c : After-deserialize_with_seed g) → IsImage g.T.CountMinValue.least g.T.CountMinValue.greatest c.seed.result c.deref.result.now c.args.sketch.now
own_image g c =
    let s : CountState = c.args.sketch.now in
    let is = IsImage g.T.CountMinValue.least g.T.CountMinValue.greatest in
    subst (λ (n : ℕ). is n c.deref.result.now s) (sym c.seed.ensures)
    (subst (λ (bytes : List ℕ). is s.seed bytes s) (sym c.deref.ensures.value)
    (spelled_is_image g.T.CountMinValue.least g.T.CountMinValue.greatest g.met.T.CountMinValue.zero_fits g.met.T.CountMinValue.bytes_fit c.in_ok-image.image.items s c.in_ok-image.ensures.image))

pub returns-clause-same : goal.returns-clause-same
returns-clause-same g c = same_sketch g.T.CountMinValue.least g.T.CountMinValue.greatest c.seed.result c.deref.result.now c.args.sketch.now c.deserialize_with_seed.result
    (own_image g (goal.at.returns-clause-same g c).After-deserialize_with_seed) c.deserialize_with_seed.ensures.image

pub returns-clause-err : goal.returns-clause-err
returns-clause-err g c = only_memory _ (first_fault g.T.CountMinValue.least g.T.CountMinValue.greatest c.seed.result c.deref.result.now) c.deserialize_with_seed.result
    (own_image g (goal.at.returns-clause-err g c).After-deserialize_with_seed).no_fault c.deserialize_with_seed.ensures.err
