-- Effects of combining one sketch into another.
use Rattle.std.specs.Prelude.{◌≡◌, ℕ, ◌+◌, ◌^◌, ◌<◌, ◌≤◌, ◌⊎◌, Bool}
use Rattle.sketch_base.specs.Errors.{invalid_argument, no_memory}
use Rattle.sketch_base.specs.declared.fault.Fault.TheVariants.{Mismatch, WeightOverflow}
use Rattle.sketch_frequencies.specs.State.{FrequentState}
use Rattle.sketch_frequencies.specs.Steps.{JoinsEqual}
use Rattle.sketch_countmin.specs.State.{CountState, SameShape}
use Rattle.sketch_countmin.specs.State as count
use Rattle.sketch_bloom.specs.State.{FilterState, IsCompatible, united, intersected, subtracted}
use Rattle.datasketches.specs.Actions.{Join}
use Rattle.datasketches.specs.declared.reply.Reply.{Reply}
use Rattle.datasketches.specs.declared.reply.Reply.TheVariants.{Done}
use Rattle.datasketches.specs.Actions.Join.{Merge, Union, Intersect, Difference}
use Rattle.datasketches.specs.declared.sketch.Sketch.{Sketch}
use Rattle.datasketches.specs.declared.sketch.Sketch.TheVariants.{Frequent, CountI64, CountU64, Bloom}
use Rattle.datasketches.specs.Replies.{refused, IsWrongKind, Becomes, max_signed, max_unsigned}

module _ {T : Type 0} (eq : T → T → Bool) where
  -- the other frequent items sketch was merged in, or an error left the sketch unchanged
  pub record JoinsFrequent (other old : FrequentState T) (reply : Reply T) (new : FrequentState T) : Type 0 where
    pub nothing : other.total ≡ 0 → (reply ≡ Done) × (new ≡ old)
    pub overflow : 2 ^ 64 ≤ old.total + other.total → (reply ≡ refused (invalid_argument WeightOverflow)) × (new ≡ old)
    pub joined : old.total + other.total < 2 ^ 64
        → ((reply ≡ Done) × JoinsEqual eq old other new) ⊎ ((reply ≡ refused no_memory) × (new ≡ old))

module _ {T : Type 0} where
  -- the other Count-Min sketch was merged in, or an error left the sketch unchanged. `greatest` is the maximum of the weight type
  pub record JoinsCount (greatest : ℕ) (other old : CountState) (reply : Reply T) (new : CountState) : Type 0 where
    pub mismatch : ¬ SameShape old other → (reply ≡ refused (invalid_argument Mismatch)) × (new ≡ old)
    pub overflow : SameShape old other → greatest < old.total + other.total
        → (reply ≡ refused (invalid_argument WeightOverflow)) × (new ≡ old)
    pub joined : SameShape old other → old.total + other.total ≤ greatest → (reply ≡ Done) × count.Joins old other new

  -- the other filter was combined in by `joined_filter`, or an error left the filter unchanged
  pub record JoinsFilter (joined_filter : FilterState → FilterState → FilterState) (other old : FilterState)
      (reply : Reply T) (new : FilterState) : Type 0 where
    pub mismatch : ¬ IsCompatible old other → (reply ≡ refused (invalid_argument Mismatch)) × (new ≡ old)
    pub joined : IsCompatible old other → (reply ≡ Done) × (new ≡ joined_filter old other)

module _ {T : Type 0} (eq : T → T → Bool) where
  -- the effect of combining another sketch into a sketch
  abbrev pub Joins : Join → Sketch T → Sketch T → Reply T → Sketch T → Type 0
  Joins Merge (Frequent other) (Frequent s) reply new = Becomes Frequent (JoinsFrequent eq other s) reply new
  Joins Merge (CountI64 other) (CountI64 s) reply new = Becomes CountI64 (JoinsCount max_signed other s) reply new
  Joins Merge (CountU64 other) (CountU64 s) reply new = Becomes CountU64 (JoinsCount max_unsigned other s) reply new
  Joins Union (Bloom other) (Bloom s) reply new = Becomes Bloom (JoinsFilter united other s) reply new
  Joins Intersect (Bloom other) (Bloom s) reply new = Becomes Bloom (JoinsFilter intersected other s) reply new
  Joins Difference (Bloom other) (Bloom s) reply new = Becomes Bloom (JoinsFilter subtracted other s) reply new
  Joins _ other old reply new = IsWrongKind old reply new
