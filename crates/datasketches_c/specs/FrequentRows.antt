-- Reports of frequent items sketches, written into the caller's buffers.
use Rattle.std.specs.Prelude.{◌≡◌, ◌≢◌, ◌⊎◌, ℕ, ℤ, ◌<◌, ◌≤◌, Bool, List, length, map, nat_eq, take, drop, if◌then◌else◌}
use Rattle.std.specs.Ordering.{int_eq}
use Rattle.sketch_base.specs.declared.fault.Fault.TheVariants.{NoMemory}
use Rattle.sketch_frequencies.specs.RowValue.{RowValue}
use Rattle.sketch_frequencies.specs.Rows.{ShowsExactly, Descends, MissesNone, ShowsNoneBelow}
use Rattle.sketch_frequencies.specs.State.{FrequentState}
use Rattle.sketch_frequencies.specs.declared.error_type.ErrorType.{ErrorType}
use Rattle.sketch_frequencies.specs.declared.error_type.ErrorType.TheVariants.{NoFalseNegatives, NoFalsePositives}
use Rattle.any_sketch.specs.declared.any_sketch.AnySketch.{AnySketch}
use Rattle.any_sketch.specs.declared.any_sketch.AnySketch.TheVariants.{FrequentI64, FrequentU64}
use Rattle.datasketches_c.specs.Numbers.{OnRefused, ok, no_room, refusal_number, wrong_kind}
use Rattle.sketch_frequencies.specs.declared.item_bounds.ItemBounds.{ItemBounds}

-- the error type of the flag: `NoFalseNegatives` if it is true, `NoFalsePositives` otherwise
abbrev pub error_type : Bool → ErrorType
error_type no_false_negatives = if no_false_negatives then NoFalseNegatives else NoFalsePositives

-- the estimate and the bounds of a row
abbrev pub bounds_in : {T : Type 0} → RowValue T → ItemBounds
bounds_in row = record { lower_bound = row.lower_bound; estimate = row.estimate; upper_bound = row.upper_bound }

-- the rows are at the front of both buffers, and the rest of the buffers is unchanged
pub record StandAtFront
    {T : Type 0} (rows : List (RowValue T)) (items_old items_new : List T) (bounds_old bounds_new : List ItemBounds)
    : Type 0 where
  pub items : take (length rows) items_new ≡ map (λ row. row.item) rows
  pub behind_items : drop (length rows) items_new ≡ drop (length rows) items_old
  pub bounds : take (length rows) bounds_new ≡ map bounds_in rows
  pub behind_bounds : drop (length rows) bounds_new ≡ drop (length rows) bounds_old

-- what a failed report leaves: unchanged buffers, and an unchanged count unless the result is `no_room`
pub record LeavesRows
    {T : Type 0} (items_old items_new : List T) (bounds_old bounds_new : List ItemBounds) (count_old count_new : ℕ) (result : ℤ)
    : Type 0 where
  pub untouched : OnRefused result ((items_new ≡ items_old) × (bounds_new ≡ bounds_old))
  pub uncounted : result ≢ ok → result ≢ no_room → count_new ≡ count_old

module _ {T : Type 0} (eq : T → T → Bool) (kind : ErrorType) (threshold : ℕ) (s : FrequentState T) where
  -- the rows are those of the tracked items whose bound is above the threshold and the error, in descending order
  pub record AreRows (rows : List (RowValue T)) : Type 0 where
    pub exact : ShowsExactly eq kind threshold s rows
    pub descending : Descends rows
    pub none_missing : kind ≡ NoFalseNegatives → MissesNone eq threshold s rows
    pub none_below : kind ≡ NoFalsePositives → ShowsNoneBelow eq threshold s rows

  -- the rows are the first ones of these, at most so many as the limit
  abbrev pub AreFirstRows : (limit : ℕ) → List (RowValue T) → Type 0
  AreFirstRows limit rows = (all : List (RowValue T)) × AreRows all × (rows ≡ take limit all)

  -- the first rows of the report were counted, and written if both buffers have room for them. Otherwise the result is `no_room`
  pub record Reports
      (limit : ℕ) (items_old items_new : List T) (bounds_old bounds_new : List ItemBounds) (count : ℕ) (result : ℤ)
      : Type 0 where
    pub rows : List (RowValue T)
    pub are : AreFirstRows limit rows
    pub counted : count ≡ length rows
    pub written :
        count ≤ length items_old → count ≤ length bounds_old →
        (result ≡ ok) × StandAtFront rows items_old items_new bounds_old bounds_new
    pub few_items : length items_old < count → result ≡ no_room
    pub few_bounds : length bounds_old < count → result ≡ no_room

  -- the report was made, or the result is `NoMemory`
  abbrev pub WritesRows :
      (limit : ℕ) → (items_old items_new : List T) (bounds_old bounds_new : List ItemBounds) (count : ℕ) (result : ℤ) → Type 0
  WritesRows limit items_old items_new bounds_old bounds_new count result =
      Reports limit items_old items_new bounds_old bounds_new count result ⊎ (result ≡ refusal_number NoMemory)

-- the report on a sketch of frequent `u64` was made, or the sketch is of another kind
abbrev pub WritesU64Rows :
    AnySketch → ErrorType → (threshold limit : ℕ) → (items_old items_new : List ℕ) (bounds_old bounds_new : List ItemBounds) (count : ℕ) → ℤ →
    Type 0
WritesU64Rows (FrequentU64 s) kind threshold limit items_old items_new bounds_old bounds_new count result =
    WritesRows nat_eq kind threshold s limit items_old items_new bounds_old bounds_new count result
WritesU64Rows sketch kind threshold limit items_old items_new bounds_old bounds_new count result = result ≡ wrong_kind

-- the same of `i64`
abbrev pub WritesI64Rows :
    AnySketch → ErrorType → (threshold limit : ℕ) → (items_old items_new : List ℤ) (bounds_old bounds_new : List ItemBounds) (count : ℕ) → ℤ →
    Type 0
WritesI64Rows (FrequentI64 s) kind threshold limit items_old items_new bounds_old bounds_new count result =
    WritesRows int_eq kind threshold s limit items_old items_new bounds_old bounds_new count result
WritesI64Rows sketch kind threshold limit items_old items_new bounds_old bounds_new count result = result ≡ wrong_kind
