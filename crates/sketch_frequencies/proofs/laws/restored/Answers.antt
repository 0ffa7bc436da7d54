use Rattle.std.proofs.Common.{◌≡◌, Result, Ok, Err, Option, None, Bool, List, ℕ, sym, ap, ◌∙◌, subst, inl, inr}
use Rattle.std.specs.Prelude.{IfOk, IfErr}
use Rattle.std.specs.Cmp.{IsEquivalence}
use Rattle.sketch_base.specs.Checks.{IsImageRefusal}
use Rattle.sketch_base.specs.Errors.{ErrorValue}
use Rattle.sketch_base.specs.declared.fault.Fault.{Fault}
use Rattle.sketch_frequencies.specs.Image.{IsImageOf, IsImageWritingRefusal, first_fault}
use Rattle.sketch_frequencies.specs.Items.{Codec}
use Rattle.sketch_frequencies.specs.State.{FrequentState, max_sample_size}
use Rattle.sketch_frequencies.specs.Steps.{HoldsSame}
use Rattle.sketch_frequencies.proofs.Images.{one_sketch}
use Rattle.sketch_frequencies.proofs.RoundTrips.{spelled_is_image}
use Rattle.sketch_frequencies.proofs.laws.restored.Given as given
use Rattle.sketch_frequencies.proofs.laws.restored.Goals as goal

-- the bytes are an image of one sketch alone
same_sketch : {T C E : Type 0} (codec : Codec C) (content : T → C) (eq : T → T → Bool) → ((x y : T) → eq x y ≡ codec.same (content x) (content y)) → IsEquivalence eq → (image : List ℕ) (s : FrequentState T) (r : Result (FrequentState T) E) → IsImageOf codec content image s → IfOk r (λ sketch. IsImageOf codec content image sketch) → IfOk r (λ copy. HoldsSame eq s copy)
same_sketch codec content eq alike laws image s (Ok sketch) was is = one_sketch codec content eq alike laws image s sketch was is
same_sketch codec content eq alike laws image s (Err e) was is = is

-- the copy has the usual sample size of the same greatest size
usual_copy : {T E : Type 0} (eq : T → T → Bool) (s : FrequentState T) (r : Result (FrequentState T) E) → IfOk r (λ copy. HoldsSame eq s copy) → IfOk r (λ copy. copy.sample_size ≡ max_sample_size copy.max_size) → IfOk r (λ copy. copy.sample_size ≡ max_sample_size s.max_size)
usual_copy eq s (Ok copy) same usual = usual ∙ ap (λ (n : ℕ). max_sample_size n) same.max_size
usual_copy eq s (Err e) same usual = usual

-- no check fails, so that only memory can be refused
only_memory : {A T C : Type 0} (codec : Codec C) (content : T → C) (counters : List (T × ℕ)) (before whole : Option Fault) (r : Result A ErrorValue) → whole ≡ None → IfErr r (IsImageRefusal before whole) → IfErr r (IsImageWritingRefusal codec content counters)
only_memory codec content counters before whole (Ok x) none h = h
only_memory codec content counters before whole (Err e) none (inl h) = inl h.0
only_memory codec content counters before whole (Err e) none (inr h) = cc (sym none ∙ h.1)

-- what was written is an image of the sketch
was : (g : given.Over) (c : goal.After-drop-image g) → IsImageOf g.T.FrequentItemValue.codec g.T.FrequentItemValue.content c.deref.result.now c.args.sketch.now
was g c =
    let codec = g.T.FrequentItemValue.codec in
    subst (λ bytes. IsImageOf codec g.T.FrequentItemValue.content bytes c.args.sketch.now) (sym c.deref.ensures.value) (spelled_is_image codec g.met.T.FrequentItemValue.lawful c.in_ok-image.image.items _ c.in_ok-image.ensures.image)

pub returns-clause-same : goal.returns-clause-same
returns-clause-same g c = same_sketch g.T.FrequentItemValue.codec g.T.FrequentItemValue.content g.T.PartialEq.eq g.met.T.FrequentItemValue.alike g.met.T.Eq.laws c.deref.result.now c.args.sketch.now c.deserialize.result (was g c) c.deserialize.ensures.image

pub returns-clause-sample : goal.returns-clause-sample
returns-clause-sample g c = usual_copy g.T.PartialEq.eq c.args.sketch.now c.deserialize.result (returns-clause-same g c) c.deserialize.ensures.sample

pub returns-clause-err : goal.returns-clause-err
returns-clause-err g c =
    let codec = g.T.FrequentItemValue.codec in
    only_memory codec g.T.FrequentItemValue.content c.args.sketch.now.counters _ (first_fault codec c.deref.result.now) c.deserialize.result (was g c).no_fault c.deserialize.ensures.err
