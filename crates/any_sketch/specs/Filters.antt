-- Results and effects of calls on a filter, for one item.
use Rattle.std.specs.Prelude.{◌≡◌, Bool, Result, Ok, IsOk}
use Rattle.sketch_bloom.specs.History.BloomHistory.{Insert}
use Rattle.sketch_bloom.specs.Stands.{Extends}
use Rattle.sketch_bloom.specs.State.{FilterState, contains_item, inserted}
use Rattle.any_sketch.specs.Items.{ItemValue, fed_by}
use Rattle.any_sketch.specs.Kinds.{LacksCall}
use Rattle.any_sketch.specs.declared.any_error.AnyError.{AnyError}
use Rattle.any_sketch.specs.declared.any_sketch.AnySketch.{AnySketch}
use Rattle.any_sketch.specs.declared.any_sketch.AnySketch.TheVariants.{Filter}

-- the filter new is the filter old with the item inserted, and stands for each history of old with that insertion
abbrev pub HoldsInserted : FilterState → ItemValue → AnySketch → Type 0
HoldsInserted s item new =
    (new ≡ Filter (inserted s (fed_by item))) × Extends s (inserted s (fed_by item)) (λ h. Insert h (fed_by item))

-- the item was inserted into the filter
abbrev pub Inserts : (old : AnySketch) → ItemValue → (new : AnySketch) → Result (Unit {0}) AnyError → Type 0
Inserts (Filter s) item new result = IsOk result × HoldsInserted s item new
Inserts old item new result = LacksCall result × (new ≡ old)

-- the result tells whether the filter contains the item
abbrev pub TellsContained : AnySketch → ItemValue → Result Bool AnyError → Type 0
TellsContained (Filter s) item result = result ≡ Ok (contains_item s (fed_by item))
TellsContained sketch item result = LacksCall result

-- the item was inserted into the filter, and the result tells whether the filter contained it before
abbrev pub ContainsAndInserts : (old : AnySketch) → ItemValue → (new : AnySketch) → Result Bool AnyError → Type 0
ContainsAndInserts (Filter s) item new result = (result ≡ Ok (contains_item s (fed_by item))) × HoldsInserted s item new
ContainsAndInserts old item new result = LacksCall result × (new ≡ old)
