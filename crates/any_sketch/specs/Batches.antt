-- Results and effects of calls for many items, on a sketch of any kind.
use Rattle.std.specs.Ordering.{int_eq}
use Rattle.std.specs.Prelude.{◌≡◌, ℕ, ℤ, pos, false, Bool, List, map, nat_eq, IsOk, OnErr, Result}
use Rattle.std.specs.String.{string_eq}
use Rattle.sketch_bloom.specs.History.{all_inserted_after}
use Rattle.sketch_bloom.specs.Image as filter_image
use Rattle.sketch_bloom.specs.Stands.{Extends}
use Rattle.sketch_bloom.specs.State.{FilterState, all_inserted, answers_in_turn, contains_item}
use Rattle.sketch_frequencies.specs.declared.item_bounds.ItemBounds.{ItemBounds}
use Rattle.any_sketch.specs.CountBatches.{AddsEach, AddsWeights}
use Rattle.any_sketch.specs.Estimates.{AreEstimates}
use Rattle.any_sketch.specs.FrequentBatches.{AreBoundsOfAll, StopsOnlyIfFull, StopsOnlyToGrow, UpdatesMany, WeighsMany}
use Rattle.any_sketch.specs.Images.{TellsOfImage}
use Rattle.any_sketch.specs.Kinds.{LacksCall, OfCountI64, OfCountU64, OfFrequentI64, OfFrequentStrings, OfFrequentU64}
use Rattle.any_sketch.specs.ManyItems.{ManyItems, OnI64s, OnStrings, OnU64s, fed_items}
use Rattle.any_sketch.specs.Updates.{max_i64, max_u64}
use Rattle.any_sketch.specs.ValidRows.{OnRows, OnWeights}
use Rattle.any_sketch.specs.declared.any_error.AnyError.{AnyError}
use Rattle.any_sketch.specs.declared.any_sketch.AnySketch.{AnySketch}
use Rattle.any_sketch.specs.declared.any_sketch.AnySketch.TheVariants.{Filter, CountI64, CountU64, FrequentI64, FrequentU64, FrequentStrings}

-- 1 was added to the weight of each item, in order, as far as the sketch took them
abbrev pub UpdatesAll : (old : AnySketch) → ManyItems → (new : AnySketch) → Result (Unit {0}) AnyError → Type 0
UpdatesAll (CountI64 s) items new result = OfCountI64 new (λ t. AddsEach max_i64 s (fed_items items) t result)
UpdatesAll (CountU64 s) items new result = OfCountU64 new (λ t. AddsEach max_u64 s (fed_items items) t result)
UpdatesAll (FrequentI64 s) items new result =
    OfFrequentI64 new (λ t. OnI64s items result (t ≡ s) (λ names. UpdatesMany int_eq s names t result × StopsOnlyIfFull t result))
UpdatesAll (FrequentU64 s) items new result =
    OfFrequentU64 new (λ t. OnU64s items result (t ≡ s) (λ names. UpdatesMany nat_eq s names t result × StopsOnlyIfFull t result))
UpdatesAll (FrequentStrings s) items new result =
    OfFrequentStrings new (λ t. OnStrings items result (t ≡ s) (λ names. UpdatesMany string_eq s names t result))
UpdatesAll old items new result = LacksCall result × (new ≡ old)

-- each weight was added to its item's, in order, as far as the sketch took them
abbrev pub Weighs : (old : AnySketch) → ManyItems → List ℕ → (new : AnySketch) → Result (Unit {0}) AnyError → Type 0
Weighs (CountU64 s) items weights new result =
    OfCountU64 new (λ t. AddsWeights max_u64 pos s (fed_items items) weights t result)
Weighs (FrequentI64 s) items weights new result =
    OfFrequentI64 new (λ t. OnI64s items result (t ≡ s) (λ names.
    WeighsMany int_eq s names weights t result × StopsOnlyToGrow s weights t result))
Weighs (FrequentU64 s) items weights new result =
    OfFrequentU64 new (λ t. OnU64s items result (t ≡ s) (λ names.
    WeighsMany nat_eq s names weights t result × StopsOnlyToGrow s weights t result))
Weighs (FrequentStrings s) items weights new result =
    OfFrequentStrings new (λ t. OnStrings items result (t ≡ s) (λ names. WeighsMany string_eq s names weights t result))
Weighs old items weights new result = LacksCall result × (new ≡ old)

-- the same, with a weight for each row. Those of null rows are not read
abbrev pub UpdatesAllWeighted : (old : AnySketch) → ManyItems → List ℕ → (new : AnySketch) → Result (Unit {0}) AnyError → Type 0
UpdatesAllWeighted old items weights new result =
    OnWeights items.validity weights result (new ≡ old) (λ kept. Weighs old items kept new result)

-- each weight, which may be below 0, was added to its item's in a Count-Min sketch with weights in `i64`
abbrev pub WeighsSigned : (old : AnySketch) → ManyItems → List ℤ → (new : AnySketch) → Result (Unit {0}) AnyError → Type 0
WeighsSigned (CountI64 s) items weights new result =
    OfCountI64 new (λ t. AddsWeights max_i64 (λ weight. weight) s (fed_items items) weights t result)
WeighsSigned old items weights new result = LacksCall result × (new ≡ old)

-- the same, with a weight for each row. Those of null rows are not read
abbrev pub UpdatesAllSigned : (old : AnySketch) → ManyItems → List ℤ → (new : AnySketch) → Result (Unit {0}) AnyError → Type 0
UpdatesAllSigned old items weights new result =
    OnWeights items.validity weights result (new ≡ old) (λ kept. WeighsSigned old items kept new result)

-- the filter new is the filter old with the items inserted, one after another, and stands for each history of old with these insertions
abbrev pub HoldsAllInserted : FilterState → List (List ℕ) → AnySketch → Type 0
HoldsAllInserted s items new = (new ≡ Filter (all_inserted s items)) × Extends s (all_inserted s items) (λ h. all_inserted_after h items)

-- the items were inserted into the filter, one after another
abbrev pub InsertsAll : (old : AnySketch) → ManyItems → (new : AnySketch) → Result (Unit {0}) AnyError → Type 0
InsertsAll (Filter s) items new result = IsOk result × HoldsAllInserted s (fed_items items) new
InsertsAll old items new result = LacksCall result × (new ≡ old)

-- the answers of the rows tell for each item whether the filter contains it. That of a null row is no
abbrev pub AreContained : FilterState → ManyItems → (by_row : List Bool) → Type 0
AreContained s items by_row = OnRows items.validity false by_row (λ answers. answers ≡ map (contains_item s) (fed_items items))

-- a filter's answers were written
abbrev pub TellsAllContained : AnySketch → ManyItems → (by_row_old by_row : List Bool) → Result (Unit {0}) AnyError → Type 0
TellsAllContained (Filter s) items by_row_old by_row result = IsOk result × AreContained s items by_row
TellsAllContained sketch items by_row_old by_row result = LacksCall result × (by_row ≡ by_row_old)

-- the answers of the filter in an image were written. The count of its bits is not checked
abbrev pub TellsAllContainedInImage : List ℕ → ManyItems → (by_row_old by_row : List Bool) → Result (Unit {0}) AnyError → Type 0
TellsAllContainedInImage image items by_row_old by_row result =
    TellsOfImage (filter_image.value_at image) (filter_image.IsImage image) (filter_image.early_fault image)
    (λ s done. AreContained s items by_row) result
    × OnErr result (by_row ≡ by_row_old)

-- the items were inserted into the filter in turn, and the answers of the rows tell for each whether it was there in its turn
abbrev pub ContainsAndInsertsAll :
    (old : AnySketch) → ManyItems → (by_row_old by_row : List Bool) → (new : AnySketch) → Result (Unit {0}) AnyError → Type 0
ContainsAndInsertsAll (Filter s) items by_row_old by_row new result =
    IsOk result × OnRows items.validity false by_row (λ answers. answers ≡ answers_in_turn s (fed_items items))
    × HoldsAllInserted s (fed_items items) new
ContainsAndInsertsAll old items by_row_old by_row new result = LacksCall result × (by_row ≡ by_row_old) × (new ≡ old)

-- each item's estimate was written at the item's row, by a Count-Min sketch with weights in `u64`. That of a null row is 0
abbrev pub EstimatesAll : AnySketch → ManyItems → (by_row_old by_row : List ℕ) → Result (Unit {0}) AnyError → Type 0
EstimatesAll (CountU64 s) items by_row_old by_row result =
    IsOk result × OnRows items.validity 0 by_row (λ estimates. AreEstimates s (fed_items items) (map pos estimates))
EstimatesAll sketch items by_row_old by_row result = LacksCall result × (by_row ≡ by_row_old)

-- the same with weights in `i64`
abbrev pub EstimatesAllSigned : AnySketch → ManyItems → (by_row_old by_row : List ℤ) → Result (Unit {0}) AnyError → Type 0
EstimatesAllSigned (CountI64 s) items by_row_old by_row result =
    IsOk result × OnRows items.validity (pos 0) by_row (λ estimates. AreEstimates s (fed_items items) estimates)
EstimatesAllSigned sketch items by_row_old by_row result = LacksCall result × (by_row ≡ by_row_old)

-- the bounds of a row that is null
abbrev pub no_bounds : ItemBounds
no_bounds = record { lower_bound = 0; estimate = 0; upper_bound = 0 }

-- the bounds of each item in a sketch of frequent items of its type were written at its row
abbrev pub BoundsAll : AnySketch → ManyItems → (by_row_old by_row : List ItemBounds) → Result (Unit {0}) AnyError → Type 0
BoundsAll (FrequentI64 s) items by_row_old by_row result =
    OnI64s items result (by_row ≡ by_row_old) (λ names.
    IsOk result × OnRows items.validity no_bounds by_row (AreBoundsOfAll int_eq s names))
BoundsAll (FrequentU64 s) items by_row_old by_row result =
    OnU64s items result (by_row ≡ by_row_old) (λ names.
    IsOk result × OnRows items.validity no_bounds by_row (AreBoundsOfAll nat_eq s names))
BoundsAll (FrequentStrings s) items by_row_old by_row result =
    OnStrings items result (by_row ≡ by_row_old) (λ names.
    IsOk result × OnRows items.validity no_bounds by_row (AreBoundsOfAll string_eq s names))
BoundsAll sketch items by_row_old by_row result = LacksCall result × (by_row ≡ by_row_old)
