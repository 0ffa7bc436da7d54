-- Results and effects of merging the sketches of other handles into that of a handle, of any kind.
use Rattle.std.specs.Prelude.{◌≡◌, ℤ, List, Option, Some, None, nat_eq}
use Rattle.std.specs.Ordering.{int_eq}
use Rattle.datasketches_c.specs.FrequentStrings.{strings_eq}
use Rattle.datasketches_c.specs.Kinds.{HoldsKind, filter_of, count_i64_of, count_u64_of, frequent_i64_of, frequent_u64_of, frequent_strings_of}
use Rattle.datasketches_c.specs.ManyHandles.{OnEachKind, OrNoMemory}
use Rattle.datasketches_c.specs.ManyJoins.{IsMerged, IsUnited, MergesAllInto, MergesAllNumbers}
use Rattle.datasketches_c.specs.Numbers.{no_sketch}
use Rattle.any_sketch.specs.Updates.{max_i64, max_u64}
use Rattle.datasketches_c.specs.Sharing.{reads, unchangeable}
use Rattle.datasketches_c.specs.declared.held_sketch.HeldSketch.{HeldSketch}
use Rattle.datasketches_c.specs.declared.held_sketch.HeldSketch.TheVariants.{Own}
use Rattle.any_sketch.specs.declared.any_sketch.AnySketch.TheVariants.{Filter, CountI64, CountU64, FrequentI64, FrequentU64, FrequentStrings}

-- the other handles' sketches, all of the same kind, were merged into this one, or were refused
abbrev pub MergesWithAll : (old new : HeldSketch) → ℤ → (others : List (Option HeldSketch)) → Type 0
MergesWithAll (Own (Filter a)) new result others =
    OnEachKind (reads filter_of) others result (λ bs.
    OrNoMemory result bs (HoldsKind filter_of (Some new) (λ c. IsUnited a bs c result)))
MergesWithAll (Own (CountI64 a)) new result others =
    OnEachKind (reads count_i64_of) others result (λ bs.
    OrNoMemory result bs (HoldsKind count_i64_of (Some new) (λ c. IsMerged max_i64 a bs c result)))
MergesWithAll (Own (CountU64 a)) new result others =
    OnEachKind (reads count_u64_of) others result (λ bs.
    OrNoMemory result bs (HoldsKind count_u64_of (Some new) (λ c. IsMerged max_u64 a bs c result)))
MergesWithAll (Own (FrequentI64 a)) new result others =
    OnEachKind (reads frequent_i64_of) others result (λ bs.
    OrNoMemory result bs (HoldsKind frequent_i64_of (Some new) (λ c. MergesAllNumbers int_eq a bs c result)))
MergesWithAll (Own (FrequentU64 a)) new result others =
    OnEachKind (reads frequent_u64_of) others result (λ bs.
    OrNoMemory result bs (HoldsKind frequent_u64_of (Some new) (λ c. MergesAllNumbers nat_eq a bs c result)))
MergesWithAll (Own (FrequentStrings a)) new result others =
    OnEachKind (reads frequent_strings_of) others result (λ bs.
    OrNoMemory result bs (HoldsKind frequent_strings_of (Some new) (λ c. MergesAllInto strings_eq a bs c result)))
MergesWithAll old new result others = (result ≡ unchangeable old) × (new ≡ old)

abbrev pub MergesAnyWithAll : (old new : Option HeldSketch) → ℤ → (others : List (Option HeldSketch)) → Type 0
MergesAnyWithAll (Some old) (Some new) result others = MergesWithAll old new result others
MergesAnyWithAll None new result others = (result ≡ no_sketch) × (new ≡ None)
MergesAnyWithAll (Some old) None result others = ⊥
