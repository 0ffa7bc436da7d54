-- Results and effects of adding a weight to that of an item, in a sketch of any kind that counts.
use Rattle.std.specs.Ordering.{int_eq}
use Rattle.std.specs.Prelude.{◌≡◌, ℕ, ℤ, pos, negsuc, nat_eq, Result}
use Rattle.std.specs.String.{string_eq}
use Rattle.counter_table.specs.StringKeys.{names_string}
use Rattle.any_sketch.specs.Counts.{AddsWeight}
use Rattle.any_sketch.specs.FrequentItems.{Adds, AddsByKey}
use Rattle.any_sketch.specs.Items.{ItemValue, fed_by}
use Rattle.any_sketch.specs.Items.ItemValue.{unsigned, signed, string}
use Rattle.any_sketch.specs.Kinds.{LacksCall, OfCountI64, OfCountU64, OfFrequentI64, OfFrequentStrings, OfFrequentU64}
use Rattle.any_sketch.specs.declared.any_error.AnyError.{AnyError}
use Rattle.any_sketch.specs.declared.any_sketch.AnySketch.{AnySketch}
use Rattle.any_sketch.specs.declared.any_sketch.AnySketch.TheVariants.{CountI64, CountU64, FrequentI64, FrequentU64, FrequentStrings}

-- the maximum of `u64`, and of `i64`
abbrev pub max_u64 : ℕ
max_u64 = 18446744073709551615

abbrev pub max_i64 : ℕ
max_i64 = 9223372036854775807

-- the minimum of `i64`
abbrev pub min_i64 : ℤ
min_i64 = negsuc 9223372036854775807

-- The weight was added to that of the item. A Count-Min sketch with weights in `u64` takes each item, and a sketch of frequent items
-- those of its own type.
abbrev pub Updates : (old : AnySketch) → ItemValue → ℕ → (new : AnySketch) → Result (Unit {0}) AnyError → Type 0
Updates (CountU64 s) item weight new result =
    OfCountU64 new (λ t. AddsWeight max_u64 s (fed_by item) (pos weight) t result)
Updates (FrequentU64 s) (unsigned n) weight new result =
    OfFrequentU64 new (λ t. Adds nat_eq n s weight t result)
Updates (FrequentI64 s) (signed n) weight new result =
    OfFrequentI64 new (λ t. Adds int_eq n s weight t result)
Updates (FrequentStrings s) (string bytes) weight new result =
    OfFrequentStrings new (λ t. AddsByKey string_eq (names_string bytes) s weight t result)
Updates old item weight new result = LacksCall result × (new ≡ old)

-- the weight, which may be below 0, was added to that of the item in a Count-Min sketch with weights in `i64`
abbrev pub UpdatesSigned : (old : AnySketch) → ItemValue → ℤ → (new : AnySketch) → Result (Unit {0}) AnyError → Type 0
UpdatesSigned (CountI64 s) item weight new result =
    OfCountI64 new (λ t. AddsWeight max_i64 s (fed_by item) weight t result)
UpdatesSigned old item weight new result = LacksCall result × (new ≡ old)
