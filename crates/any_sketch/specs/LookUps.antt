-- What a sketch of any kind that counts tells of an item.
use Rattle.std.specs.Ordering.{int_eq}
use Rattle.std.specs.Prelude.{ℕ, ℤ, pos, nat_eq, IfOk, IsOk, Result}
use Rattle.std.specs.String.{string_eq}
use Rattle.counter_table.specs.StringKeys.{names_string}
use Rattle.sketch_frequencies.specs.declared.item_bounds.ItemBounds.{ItemBounds}
use Rattle.any_sketch.specs.Counts.{IsBound}
use Rattle.any_sketch.specs.Estimates.{IsEstimate}
use Rattle.any_sketch.specs.FrequentItems.{AreBoundsOfKey}
use Rattle.any_sketch.specs.Items.{ItemValue, fed_by}
use Rattle.any_sketch.specs.Items.ItemValue.{unsigned, signed, string}
use Rattle.any_sketch.specs.Kinds.{LacksCall}
use Rattle.any_sketch.specs.Updates.{max_i64, max_u64}
use Rattle.any_sketch.specs.declared.any_error.AnyError.{AnyError}
use Rattle.any_sketch.specs.declared.any_sketch.AnySketch.{AnySketch}
use Rattle.any_sketch.specs.declared.any_sketch.AnySketch.TheVariants.{CountI64, CountU64, FrequentI64, FrequentU64, FrequentStrings}

-- the call succeeded, and the statement holds of its result
abbrev pub Tells : {A : Type 0} → Result A AnyError → (A → Type 0) → Type 0
Tells result said = IsOk result × IfOk result said

-- the result is the estimate of the item's weight in a Count-Min sketch with weights in `u64`
abbrev pub Estimates : AnySketch → ItemValue → Result ℕ AnyError → Type 0
Estimates (CountU64 s) item result = Tells result (λ estimate. IsEstimate s (fed_by item) (pos estimate))
Estimates sketch item result = LacksCall result

-- the same with weights in `i64`
abbrev pub EstimatesSigned : AnySketch → ItemValue → Result ℤ AnyError → Type 0
EstimatesSigned (CountI64 s) item result = Tells result (IsEstimate s (fed_by item))
EstimatesSigned sketch item result = LacksCall result

-- the result is the upper bound of the item's weight in a Count-Min sketch with weights in `u64`
abbrev pub BoundsAbove : AnySketch → ItemValue → Result ℕ AnyError → Type 0
BoundsAbove (CountU64 s) item result = Tells result (λ bound. IsBound max_u64 (fed_by item) (pos bound) s)
BoundsAbove sketch item result = LacksCall result

-- the same with weights in `i64`
abbrev pub BoundsSignedAbove : AnySketch → ItemValue → Result ℤ AnyError → Type 0
BoundsSignedAbove (CountI64 s) item result = Tells result (λ bound. IsBound max_i64 (fed_by item) bound s)
BoundsSignedAbove sketch item result = LacksCall result

-- the result is the bounds of the item's weight in a sketch of frequent items of its type
abbrev pub Bounds : AnySketch → ItemValue → Result ItemBounds AnyError → Type 0
Bounds (FrequentU64 s) (unsigned n) result = Tells result (AreBoundsOfKey nat_eq (nat_eq n) s)
Bounds (FrequentI64 s) (signed n) result = Tells result (AreBoundsOfKey int_eq (int_eq n) s)
Bounds (FrequentStrings s) (string bytes) result = Tells result (AreBoundsOfKey string_eq (names_string bytes) s)
Bounds sketch item result = LacksCall result
