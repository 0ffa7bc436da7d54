-- The kinds of sketches, and the sketch of a kind.
use Rattle.std.specs.Global.{Global}
use Rattle.std.specs.Prelude.{◌≡◌, ℕ, ℤ, Result, Err}
use Rattle.std.specs.declared.string.String.{String}
use Rattle.sketch_bloom.specs.State.{FilterState}
use Rattle.sketch_countmin.specs.State.{CountState}
use Rattle.sketch_frequencies.specs.State.{FrequentState}
use Rattle.any_sketch.specs.declared.any_error.AnyError.{AnyError}
use Rattle.any_sketch.specs.declared.any_error.AnyError.TheVariants.{WrongKind}
use Rattle.any_sketch.specs.declared.any_sketch.AnySketch.{AnySketch}
use Rattle.any_sketch.specs.declared.any_sketch.AnySketch.TheVariants as any
use Rattle.any_sketch.specs.declared.kind.Kind.{Kind}
use Rattle.any_sketch.specs.declared.kind.Kind.TheVariants.{Filter, CountU64, CountI64, FrequentU64, FrequentI64, FrequentStrings}

-- the kind of a sketch
abbrev pub kind_of : AnySketch → Kind
kind_of (any.Filter s) = Filter
kind_of (any.CountU64 s) = CountU64
kind_of (any.CountI64 s) = CountI64
kind_of (any.FrequentU64 s) = FrequentU64
kind_of (any.FrequentI64 s) = FrequentI64
kind_of (any.FrequentStrings s) = FrequentStrings

-- the kind does not have the call, or does not take such items
abbrev pub LacksCall : {A : Type 0} → Result A AnyError → Type 0
LacksCall result = result ≡ Err WrongKind

-- the sketch is of this kind, and the statement holds of it
abbrev pub OfFilter : AnySketch → (FilterState → Type 0) → Type 0
OfFilter (any.Filter s) said = said s
OfFilter sketch said = ⊥

abbrev pub OfCountU64 : AnySketch → (CountState → Type 0) → Type 0
OfCountU64 (any.CountU64 s) said = said s
OfCountU64 sketch said = ⊥

abbrev pub OfCountI64 : AnySketch → (CountState → Type 0) → Type 0
OfCountI64 (any.CountI64 s) said = said s
OfCountI64 sketch said = ⊥

abbrev pub OfFrequentU64 : AnySketch → (FrequentState ℕ → Type 0) → Type 0
OfFrequentU64 (any.FrequentU64 s) said = said s
OfFrequentU64 sketch said = ⊥

abbrev pub OfFrequentI64 : AnySketch → (FrequentState ℤ → Type 0) → Type 0
OfFrequentI64 (any.FrequentI64 s) said = said s
OfFrequentI64 sketch said = ⊥

abbrev pub OfFrequentStrings : AnySketch → (FrequentState (String Global) → Type 0) → Type 0
OfFrequentStrings (any.FrequentStrings s) said = said s
OfFrequentStrings sketch said = ⊥
