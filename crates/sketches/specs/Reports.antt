-- What a report shows of the items that were counted.
use Rattle.std.specs.Prelude.{◌≡◌, ◌⊎◌, ◌↔◌, ℕ, ◌+◌, ◌-◌, ◌*◌, ◌^◌, ◌<◌, ◌≤◌, Bool, true, false, List, [], ◌++◌, length, map, All, AllPairs, Option, IfSome, codes, min, take, if◌then◌else◌}
use Rattle.std.specs.Cmp.Lexicographic.{slice_cmp}
use Rattle.std.specs.Fmt.{decimal}
use Rattle.std.specs.Global.{Global}
use Rattle.std.specs.Io.KnownBytes.{Appends}
use Rattle.std.specs.List.{flat_map, list_any, IsDistinct}
use Rattle.std.specs.Ordering.{is_gt, nat_cmp, ordering_then}
use Rattle.std.specs.Str.{bytes_eq}
use Rattle.std.specs.String.{string_bytes, string_eq}
use Rattle.std.specs.declared.cmp.Ordering.{Ordering}
use Rattle.std.specs.declared.string.String.{String}
use Rattle.sketch_frequencies.specs.RowValue.{RowValue}
use Rattle.sketch_frequencies.specs.Rows.{MissesNone, ShowsExactly}
use Rattle.sketch_frequencies.specs.State.{capacity, empty_state, max_sample_size}
use Rattle.sketch_frequencies.specs.SuggestedSizes.{usual_budget}
use Rattle.sketch_frequencies.specs.declared.error_type.ErrorType.TheVariants.{NoFalseNegatives}
use Rattle.sketches.specs.Added.{AddsWeighed, Sketch}
use Rattle.sketches.specs.Inputs.{AreRead}
use Rattle.sketches.specs.Json.{json_escaped}
use Rattle.sketches.specs.Outputs.{WritesFront}
use Rattle.sketches.specs.TextEscapes.{text_escaped}
use Rattle.sketches.specs.Thresholds.{IsAbove}
use Rattle.sketches.specs.Skipped.{skipped_in}
use Rattle.sketches.specs.Utf8Lines.{not_utf8_in}
use Rattle.sketches.specs.Weighed.{Weighed, records_of, splits_of, total_of, unweighed_of, weight_of, weighed_of}
use Rattle.sketches.specs.declared.item.weighing.Weighing.{Weighing}
use Rattle.sketches.specs.declared.print.layout.Layout.{Layout}
use Rattle.sketches.specs.declared.print.layout.Style.{Style}
use Rattle.sketches.specs.declared.print.layout.Style.TheVariants.{Plain, Escaped, Json}
use Rattle.sketches.specs.declared.print.threshold.Threshold.{Threshold}
use Rattle.sketches.specs.declared.count.top.Options.{Options}
use Rattle.sketches.specs.declared.count.top.Summary.{Summary}

-- a row of a string
abbrev pub Row : Type 0
Row = RowValue (String Global)

-- the line of the error and the weight of all items
abbrev pub header_in : Style → ℕ → ℕ → List ℕ
header_in Plain error total = codes "# error " ++ decimal error ++ codes " of " ++ decimal total ++ codes "\n"
header_in Escaped error total = codes "# error " ++ decimal error ++ codes " of " ++ decimal total ++ codes "\n"
header_in Json error total = codes "{\"error\":" ++ decimal error ++ codes ",\"total\":" ++ decimal total ++ codes "}\n"

-- the first line, if it is wanted
abbrev pub header_line : Layout → ℕ → ℕ → List ℕ
header_line layout error total = if layout.header then header_in layout.style error total else []

-- the list has each item of a weight above 0
abbrev pub HasAll : List (List ℕ) → Weighed → Type 0
HasAll list items = (item : List ℕ) → 0 < weight_of items item → list_any (bytes_eq item) list ≡ true

-- the numbers of a row before its item: the lower bound and the upper bound, or where the bounds are equal one number
abbrev pub plain_numbers : (exact : Bool) → Row → List ℕ
plain_numbers true row = decimal row.lower_bound ++ codes "\t"
plain_numbers false row = decimal row.lower_bound ++ codes "\t" ++ decimal row.upper_bound ++ codes "\t"

abbrev pub json_numbers : (exact : Bool) → Row → List ℕ
json_numbers true row = codes "{\"count\":" ++ decimal row.lower_bound ++ codes ",\"item\":\""
json_numbers false row =
    codes "{\"lower\":" ++ decimal row.lower_bound ++ codes ",\"upper\":" ++ decimal row.upper_bound ++ codes ",\"item\":\""

-- the line of a row
abbrev pub row_line : (exact : Bool) → Style → Row → List ℕ
row_line exact Plain row = plain_numbers exact row ++ string_bytes row.item ++ codes "\n"
row_line exact Escaped row = plain_numbers exact row ++ text_escaped (string_bytes row.item) ++ codes "\n"
row_line exact Json row = json_numbers exact row ++ json_escaped (string_bytes row.item) ++ codes "\"}\n"

-- the header and the lines of the rows
abbrev pub report_text : Layout → ℕ → ℕ → List Row → List ℕ
report_text layout error total rows = header_line layout error total ++ flat_map (row_line layout.exact layout.style) rows

-- the item has a row
abbrev pub IsListed : List Row → List ℕ → Type 0
IsListed rows item = list_any (λ row. bytes_eq item (string_bytes row.item)) rows ≡ true

-- the row comes before an item with this number: its upper bound is higher, or it is the same and no byte is less where its item and the
-- other first differ
abbrev pub IsBefore : (number : ℕ) → (item : List ℕ) → Row → Type 0
IsBefore number item row =
    (number < row.upper_bound) ⊎ ((number ≡ row.upper_bound) × (is_gt (slice_cmp nat_cmp (string_bytes row.item) item) ≡ false))

-- the order of rows
abbrev pub Precedes : Row → Row → Type 0
Precedes earlier later = IsBefore later.upper_bound (string_bytes later.item) earlier

-- the same as a comparison: descending upper bounds, and ascending items of equal ones
abbrev pub row_cmp : Row → Row → Ordering
row_cmp a b = ordering_then (nat_cmp b.upper_bound a.upper_bound) (slice_cmp nat_cmp (string_bytes a.item) (string_bytes b.item))

-- the row's bounds enclose the weight of its item
abbrev pub Encloses : Weighed → Row → Type 0
Encloses items row =
    (row.lower_bound ≤ weight_of items (string_bytes row.item)) × (weight_of items (string_bytes row.item) ≤ row.upper_bound)

-- Rows of distinct items of a weight above 0, whose upper bounds are above the threshold, in descending order of upper bounds and in
-- ascending order of items, at most `count`. An item of a weight above `error` and above the threshold has a row, or there are `count`
-- rows that come before it. The error is at most one part of
-- the weight of all items, of as many parts as the table of this size has in its tail budget. It is 0 if few items are distinct: a
-- list that fits into the table has all of them.
pub record Reports (items : Weighed) (size : ℕ) (threshold : Threshold) (count error : ℕ) (rows : List Row) : Type 0 where
  pub few : length rows ≤ count
  pub enclosed : All (Encloses items) rows
  pub occurring : All (λ row. 0 < row.lower_bound) rows
  pub above : All (λ row. IsAbove threshold (total_of items) row.upper_bound) rows
  pub width : All (λ row. row.upper_bound ≡ row.lower_bound + error) rows
  pub once : IsDistinct string_eq (map (λ row. row.item) rows)
  pub order : AllPairs Precedes rows
  pub missing :
      (item : List ℕ) → error < weight_of items item → IsAbove threshold (total_of items) (weight_of items item) →
      IsListed rows item ⊎ ((length rows ≡ count) × All (IsBefore (weight_of items item) item) rows)
  pub share : usual_budget size * error ≤ total_of items
  pub exact : (distinct : List (List ℕ)) → length distinct ≤ capacity size → HasAll distinct items → error ≡ 0

-- the text shows the sketch: its error and its total, and the rows of the first tracked items above the threshold in descending
-- order of upper bounds and in ascending order of items. Numbers above `floor` are above the threshold. If exact numbers are wanted, the error is 0
pub record ShowsTop (s : Sketch) (layout : Layout) (threshold : Threshold) (count : ℕ) (text : List ℕ) : Type 0 where
  pub exactly : layout.exact ≡ true → s.error ≡ 0
  pub floor : ℕ
  pub above : (n : ℕ) → IsAbove threshold s.total n ↔ (floor < n)
  pub rows : List Row
  pub written : text ≡ report_text layout s.error s.total (take (min count (length rows)) rows)
  pub exact : ShowsExactly string_eq NoFalseNegatives floor s rows
  pub order : AllPairs Precedes rows
  pub misses : MissesNone string_eq floor s rows

-- The sketch is an empty one of the size and the key of the run, after the items of what was read of the inputs were added in order.
abbrev pub Counts : Options → (read : List (List ℕ)) → Sketch → Type 0
Counts options read s =
    AddsWeighed (empty_state options.size (max_sample_size options.size) options.key) (flat_map (weighed_of options.weighing) read) s

-- the summary has the number of these records whose items are not UTF-8, and the number of those that have an item and no weight, and whose
-- weight is 0
abbrev pub HasNumbers : Weighing → (records : List (List ℕ)) → Summary → Type 0
HasNumbers chosen records summary =
    (summary.not_utf8 ≡ min (not_utf8_in chosen records) (2 ^ 64 - 1))
    × (summary.unweighed ≡ min (skipped_in chosen records) (2 ^ 64 - 1))

-- The text is a report on the items of what was read of the inputs, whose records all have weights. Its error is that of the sketch
-- that counts them. If exact numbers are wanted, it is 0. The summary has the numbers of these records.
abbrev pub IsReport : Options → List (List ℕ) → (fails : List Bool) → Summary → List ℕ → Type 0
IsReport options inputs fails summary text =
    (read : List (List ℕ)) × (s : Sketch) × (rows : List Row) × AreRead (splits_of options.weighing) fails inputs read
    × HasNumbers options.weighing (flat_map (records_of options.weighing) read) summary
    × (flat_map (unweighed_of options.weighing) read ≡ []) × Counts options read s
    × (text ≡ report_text options.layout s.error (total_of (flat_map (weighed_of options.weighing) read)) rows)
    × Reports (flat_map (weighed_of options.weighing) read) options.size options.threshold options.rows s.error rows
    × (options.layout.exact ≡ true → s.error ≡ 0)

-- Exact numbers are not to be had: the error is that of the sketch that counts what was read, whose records all have weights. The summary has
-- the numbers of these records.
abbrev pub IsErrorOf : Options → Option (List (List ℕ)) → (fails : List Bool) → Summary → (error : ℕ) → Type 0
IsErrorOf options inputs fails summary error = IfSome inputs (λ all.
    (read : List (List ℕ)) × (s : Sketch) × AreRead (splits_of options.weighing) fails all read
    × HasNumbers options.weighing (flat_map (records_of options.weighing) read) summary
    × (flat_map (unweighed_of options.weighing) read ≡ []) × Counts options read s × (error ≡ s.error))

-- the output received a report on these inputs
abbrev pub WritesReport : Options → Option (List (List ℕ)) → (fails : List Bool) → Summary → Option (List ℕ) → Option (List ℕ) → Type 0
WritesReport options inputs fails summary held holds = IfSome inputs (λ all.
    (text : List ℕ) × IsReport options all fails summary text × Appends held holds text)

-- it received the front of one
abbrev pub WritesReportFront : Options → Option (List (List ℕ)) → (fails : List Bool) → Option (List ℕ) → Option (List ℕ) → Type 0
WritesReportFront options inputs fails held holds = IfSome inputs (λ all.
    (summary : Summary) × (text : List ℕ) × IsReport options all fails summary text × WritesFront held holds text)
