-- Calls for one kind of sketch on a handle that may hold any kind.
use Rattle.std.specs.Prelude.{◌≡◌, ℕ, ℤ, Option, Some, None}
use Rattle.std.specs.Global.{Global}
use Rattle.std.specs.declared.string.String.{String}
use Rattle.sketch_bloom.specs.State.{FilterState}
use Rattle.sketch_countmin.specs.State.{CountState}
use Rattle.sketch_frequencies.specs.State.{FrequentState}
use Rattle.datasketches_c.specs.Numbers.{no_sketch}
use Rattle.datasketches_c.specs.Sharing.{reads, unchangeable, unreadable}
use Rattle.datasketches_c.specs.declared.held_sketch.HeldSketch.{HeldSketch}
use Rattle.datasketches_c.specs.declared.held_sketch.HeldSketch.TheVariants.{Own}
use Rattle.any_sketch.specs.declared.any_sketch.AnySketch.TheVariants.{Filter, CountI64, CountU64, FrequentI64, FrequentStrings, FrequentU64}

-- the statement holds of the sketch of this kind. If there is none, the result is the error that `refusal` has for the sketch, and the
-- handle is unchanged. `OnKindOr` states this of a handle, and `no_sketch` if the handle is empty
module _ {S : Type 0} (refusal : HeldSketch → ℤ) (part : HeldSketch → Option S) where
  abbrev pub OnPartOr : Option S → HeldSketch → Option HeldSketch → ℤ → (S → Type 0) → Type 0
  OnPartOr (Some s) held new result said = said s
  OnPartOr None held new result said = (result ≡ refusal held) × (new ≡ Some held)

  abbrev pub OnKindOr : (old new : Option HeldSketch) → ℤ → (S → Type 0) → Type 0
  OnKindOr None new result said = (result ≡ no_sketch) × (new ≡ None)
  OnKindOr (Some held) new result said = OnPartOr (part held) held new result said

module _ {S : Type 0} (part : HeldSketch → Option S) where
  -- `OnKindOr` for calls that read the sketch of a handle
  abbrev pub OnKind : (old new : Option HeldSketch) → ℤ → (S → Type 0) → Type 0
  OnKind = OnKindOr unreadable part

  -- `OnKindOr` for calls that change the sketch of a handle
  abbrev pub ChangesKind : (old new : Option HeldSketch) → ℤ → (S → Type 0) → Type 0
  ChangesKind = OnKindOr unchangeable part

  -- there is a sketch of this kind, and the statement holds of it. `HoldsKind` states this of a handle
  abbrev pub OfPart : Option S → (S → Type 0) → Type 0
  OfPart (Some s) said = said s
  OfPart None said = ⊥

  abbrev pub HoldsKind : Option HeldSketch → (S → Type 0) → Type 0
  HoldsKind (Some held) said = OfPart (part held) said
  HoldsKind None said = ⊥

-- the filter, if the sketch is one
abbrev pub filter_of : HeldSketch → Option FilterState
filter_of (Own (Filter s)) = Some s
filter_of held = None

-- the Count-Min sketch with weights in `i64`, if the sketch is one
abbrev pub count_i64_of : HeldSketch → Option CountState
count_i64_of (Own (CountI64 s)) = Some s
count_i64_of held = None

-- the Count-Min sketch with weights in `u64`, if the sketch is one
abbrev pub count_u64_of : HeldSketch → Option CountState
count_u64_of (Own (CountU64 s)) = Some s
count_u64_of held = None

-- the frequent items sketch of `i64` items, if the sketch is one
abbrev pub frequent_i64_of : HeldSketch → Option (FrequentState ℤ)
frequent_i64_of (Own (FrequentI64 s)) = Some s
frequent_i64_of held = None

-- the frequent items sketch of `u64` items, if the sketch is one
abbrev pub frequent_u64_of : HeldSketch → Option (FrequentState ℕ)
frequent_u64_of (Own (FrequentU64 s)) = Some s
frequent_u64_of held = None

-- the frequent items sketch of strings, if the sketch is one
abbrev pub frequent_strings_of : HeldSketch → Option (FrequentState (String Global))
frequent_strings_of (Own (FrequentStrings s)) = Some s
frequent_strings_of held = None

-- `ChangesKind` for filters
abbrev pub ChangesFilter : (old new : Option HeldSketch) → ℤ → (FilterState → Type 0) → Type 0
ChangesFilter = ChangesKind filter_of

-- `OnKind` for calls that read a sketch of a kind, which may be shared; below, for each kind
abbrev pub ReadsKind : {S : Type 0} → (HeldSketch → Option S) → (old new : Option HeldSketch) → ℤ → (S → Type 0) → Type 0
ReadsKind part = OnKind (reads part)

abbrev pub ReadsFilter : (old new : Option HeldSketch) → ℤ → (FilterState → Type 0) → Type 0
ReadsFilter = ReadsKind filter_of

abbrev pub ReadsFrequentI64 : (old new : Option HeldSketch) → ℤ → (FrequentState ℤ → Type 0) → Type 0
ReadsFrequentI64 = ReadsKind frequent_i64_of

abbrev pub ReadsFrequentU64 : (old new : Option HeldSketch) → ℤ → (FrequentState ℕ → Type 0) → Type 0
ReadsFrequentU64 = ReadsKind frequent_u64_of

abbrev pub ReadsFrequentStrings : (old new : Option HeldSketch) → ℤ → (FrequentState (String Global) → Type 0) → Type 0
ReadsFrequentStrings = ReadsKind frequent_strings_of
