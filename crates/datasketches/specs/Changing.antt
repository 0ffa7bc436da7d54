-- Effects of a change on a sketch of each kind.
use Rattle.std.specs.Prelude.{◌≡◌, ℕ, ◌+◌, ◌^◌, ◌<◌, ◌≤◌, ◌⊎◌, IsTrue, Bool, List, ℤ, pos, unsigned_abs}
use Rattle.sketch_base.specs.Errors.{invalid_argument, no_memory}
use Rattle.sketch_base.specs.Hashes.{fed_bytes}
use Rattle.sketch_base.specs.declared.fault.Fault.TheVariants.{WeightOverflow}
use Rattle.sketch_frequencies.specs.State.{FrequentState, emptied, must_double}
use Rattle.sketch_frequencies.specs.Steps.{Steps}
use Rattle.sketch_countmin.specs.State.{CountState, Counts, halved_state, decayed_state}
use Rattle.sketch_bloom.specs.State.{inserted, cleared}
use Rattle.datasketches.specs.Actions.{Change}
use Rattle.datasketches.specs.declared.reply.Reply.{Reply}
use Rattle.datasketches.specs.declared.reply.Reply.TheVariants.{Done, Refused}
use Rattle.datasketches.specs.declared.reply.Refusal.TheVariants.{BadFraction}
use Rattle.datasketches.specs.Actions.Change.{Add, AddSigned, Insert, Reset, Halve, Decay}
use Rattle.datasketches.specs.declared.sketch.Sketch.{Sketch}
use Rattle.datasketches.specs.declared.sketch.Sketch.TheVariants.{Frequent, CountI64, CountU64, Bloom}
use Rattle.datasketches.specs.Replies.{refused, IsWrongKind, Becomes, max_signed, max_unsigned}

module _ {T : Type 0} (eq : T → T → Bool) where
  -- the item was added to a frequent items sketch, or an error left the sketch unchanged
  pub record AddsFrequent (item : T) (weight : ℕ) (old : FrequentState T) (reply : Reply T)
      (new : FrequentState T) : Type 0 where
    pub nothing : weight ≡ 0 → (reply ≡ Done) × (new ≡ old)
    pub overflow : 2 ^ 64 ≤ old.total + weight → (reply ≡ refused (invalid_argument WeightOverflow)) × (new ≡ old)
    pub added : 0 < weight → old.total + weight < 2 ^ 64 → ((reply ≡ Done) × Steps eq old item weight new)
        ⊎ ((reply ≡ refused no_memory) × IsTrue (must_double eq old item) × (new ≡ old))

module _ {T : Type 0} where
  -- the weight was counted in a Count-Min sketch, or an error left the sketch unchanged. `greatest` is the maximum of the weight
  -- type
  pub record AddsCount (greatest : ℕ) (bytes : List ℕ) (weight : ℤ) (old : CountState) (reply : Reply T)
      (new : CountState) : Type 0 where
    pub nothing : weight ≡ pos 0 → (reply ≡ Done) × (new ≡ old)
    pub overflow : greatest < old.total + unsigned_abs weight
        → (reply ≡ refused (invalid_argument WeightOverflow)) × (new ≡ old)
    pub counted : old.total + unsigned_abs weight ≤ greatest → (reply ≡ Done) × Counts old bytes weight new

  -- the Count-Min sketch was scaled by a fraction above 0 and at most 1. Any other fraction was rejected, and the sketch is
  -- unchanged
  pub record DecaysCount (numerator denominator : ℕ) (old : CountState) (reply : Reply T) (new : CountState) : Type 0 where
    pub zero : numerator ≡ 0 → (reply ≡ Refused BadFraction) × (new ≡ old)
    pub above : denominator < numerator → (reply ≡ Refused BadFraction) × (new ≡ old)
    pub scaled : 0 < numerator → numerator ≤ denominator
        → (reply ≡ Done) × (new ≡ decayed_state numerator denominator old)

module _ {T : Type 0} (eq : T → T → Bool) (input : T → List (List ℕ)) where
  -- the effect of a change on a sketch. A reset sketch is empty, and keeps its sizes, its seed, its key and its
  -- number of purges
  abbrev pub Changes : Change T → Sketch T → Reply T → Sketch T → Type 0
  Changes (Add item weight) (Frequent s) reply new = Becomes Frequent (AddsFrequent eq item weight s) reply new
  Changes (Add item weight) (CountU64 s) reply new =
      Becomes CountU64 (AddsCount max_unsigned (fed_bytes input item) (pos weight) s) reply new
  Changes (AddSigned item weight) (CountI64 s) reply new =
      Becomes CountI64 (AddsCount max_signed (fed_bytes input item) weight s) reply new
  Changes (Insert item) (Bloom s) reply new = (reply ≡ Done) × (new ≡ Bloom (inserted s (fed_bytes input item)))
  Changes Reset (Frequent s) reply new = (reply ≡ Done) × (new ≡ Frequent (emptied s))
  Changes Reset (Bloom s) reply new = (reply ≡ Done) × (new ≡ Bloom (cleared s))
  Changes Halve (CountU64 s) reply new = (reply ≡ Done) × (new ≡ CountU64 (halved_state s))
  Changes (Decay numerator denominator) (CountU64 s) reply new = Becomes CountU64 (DecaysCount numerator denominator s) reply new
  Changes _ old reply new = IsWrongKind old reply new
