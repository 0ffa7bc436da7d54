-- What the images of sketches of strings stand for, and what is merged from them.
use Rattle.std.specs.Prelude.{◌≡◌, ℕ, ◌+◌, ◌≤◌, Bool, true, List, [], ◌∷◌, length, map, sum_by, Option, Some, IfSome, MatchOption, Result, MatchResult}
use Rattle.std.specs.Global.{Global}
use Rattle.std.specs.Io.KnownBytes.{Appends}
use Rattle.std.specs.List.{AllZip, flat_map}
use Rattle.std.specs.String.{string_bytes, string_eq}
use Rattle.std.specs.declared.string.String.{String}
use Rattle.std.specs.declared.io.Error.{Error}
use Rattle.counter_table.specs.Tables.{sum_of}
use Rattle.sketch_frequencies.specs.History.{FrequentHistory, true_weight, total_weight, min_sample, min_size}
use Rattle.sketch_frequencies.specs.Image.{IsImageOf, IsSpelledFor, Restores, RestoresBudget, prefix_bytes, total_at, unless_empty}
use Rattle.sketch_frequencies.specs.Items.{text_codec}
use Rattle.sketch_frequencies.specs.ManyMerges.{JoinsAll}
use Rattle.sketch_frequencies.specs.Stands.{StandsFor, KeepsTailBudget}
use Rattle.sketch_frequencies.specs.State.{IsState, max_sample_size}
use Rattle.sketches.specs.Added.{Sketch}
use Rattle.sketches.specs.Inputs.{AreRead}
use Rattle.sketches.specs.Outputs.{WritesFront}
use Rattle.sketches.specs.Reports.{Counts, Row, Reports, ShowsTop, WritesReportFront, report_text}
use Rattle.sketches.specs.Weighed.{Weighed, splits_of, total_of, weight_of, weighed_of}
use Rattle.sketches.specs.declared.print.layout.Layout.{Layout}
use Rattle.sketches.specs.declared.image.merge.MergeOptions.{MergeOptions}
use Rattle.sketches.specs.declared.print.threshold.Threshold.{Threshold}
use Rattle.sketches.specs.declared.count.top.Options.{Options}

-- a reader of the image, if it could be opened
abbrev pub IsOpened : {R E : Type 0} → (R → Option (List ℕ)) → List ℕ → Result R E → Type 0
IsOpened remaining image opened = MatchResult opened (λ reader. remaining reader ≡ Some image) (λ _. Unit {0})

-- the next image was opened, or could not be, and is left no more; or none is left
abbrev pub OpensImage : {R E : Type 0} → (R → Option (List ℕ)) → Option (List (List ℕ)) → Option (List (List ℕ)) → Option (Result R E) → Type 0
OpensImage remaining was is next = IfSome was (λ images. MatchOption next (images ≡ []) (λ opened.
    (image : List ℕ) × (later : List (List ℕ)) × (images ≡ image ∷ later) × (is ≡ Some later) × IsOpened remaining image opened))

-- The sketch represents a history of these items with their weights, in tables of a maximum size of at least `size`.
pub record HasItems (size : ℕ) (items : Weighed) (s : Sketch) : Type 0 where
  pub strings : List (String Global × ℕ)
  pub are : map (λ pair. (string_bytes pair.0, pair.1)) strings ≡ items
  pub history : FrequentHistory (String Global)
  pub stands : StandsFor string_eq s history
  pub budget : KeepsTailBudget string_eq s history
  pub weights : (x : String Global) → true_weight string_eq history x ≡ weight_of items (string_bytes x)
  pub total : total_weight history ≡ total_of items
  pub table : size ≤ min_size history
  pub sample : max_sample_size size ≤ min_sample history

-- the bytes are an image of a sketch of these items
pub record IsImageOfItems (size : ℕ) (image : List ℕ) (items : Weighed) : Type 0 where
  pub sketch : Sketch
  pub image_of : IsImageOf text_codec string_bytes image sketch
  pub has : HasItems size items sketch

-- The bytes, at most `limit`, are an image of the sketch and nothing more. The sketch is valid, whoever wrote them. If they are an
-- image of a sketch that represents a history, this one represents the restored history.
pub record Loads (limit : ℕ) (image : List ℕ) (s : Sketch) : Type 0 where
  pub fits : length image ≤ limit
  pub whole : prefix_bytes text_codec image ≡ length image
  pub image_of : IsImageOf text_codec string_bytes image s
  pub state : IsState string_eq s
  pub stands : Restores text_codec string_bytes string_eq image s
  pub budget : RestoresBudget text_codec string_bytes string_eq image s

-- all items of these lists
abbrev pub all_items : List Weighed → Weighed
all_items lists = flat_map (λ items. items) lists

-- the total weight in an image
abbrev pub total_in : List ℕ → ℕ
total_in image = unless_empty image (total_at image)

-- The sketch is that of the first image after those of the others were merged into it, in order. Its total is the sum of the totals
-- of all images, and its counts and its error are together at most its total, whoever wrote the images. If each is an image of a
-- sketch of items, the merged sketch has all these items.
pub record Merges (limit : ℕ) (images : List (List ℕ)) (s : Sketch) : Type 0 where
  pub first : Sketch
  pub others : List Sketch
  pub loaded : AllZip (Loads limit) images (first ∷ others)
  pub joins : JoinsAll string_eq first others s
  pub total : s.total ≡ sum_by total_in images
  pub within : sum_of s.counters + s.error ≤ s.total
  pub items :
      (size : ℕ) (lists : List Weighed) → AllZip (IsImageOfItems size) images lists → HasItems size (all_items lists) s

-- the text is a report on these items; if exact numbers are wanted, the error is 0
pub record ReportsItems (size : ℕ) (items : Weighed) (layout : Layout) (threshold : Threshold) (count : ℕ) (text : List ℕ) : Type 0 where
  pub error : ℕ
  pub exactly : layout.exact ≡ true → error ≡ 0
  pub rows : List Row
  pub written : text ≡ report_text layout error (total_of items) rows
  pub reports : Reports items size threshold count error rows

-- The text is a report on the merged sketch. If each image is an image of a sketch of items, the report is on all these items.
pub record IsMergeReport (options : MergeOptions) (images : List (List ℕ)) (text : List ℕ) : Type 0 where
  pub sketch : Sketch
  pub merges : Merges options.images.max_bytes images sketch
  pub shows : ShowsTop sketch options.layout options.threshold options.rows text
  pub items :
      (size : ℕ) (lists : List Weighed) → AllZip (IsImageOfItems size) images lists →
      ReportsItems size (all_items lists) options.layout options.threshold options.rows text

-- exact numbers are not to be had: the error is that of the merged sketch
abbrev pub IsMergedError : MergeOptions → List (List ℕ) → ℕ → Type 0
IsMergedError options images error = (s : Sketch) × Merges options.images.max_bytes images s × (error ≡ s.error)

-- the output received a report on the merged sketch
abbrev pub WritesMerge : MergeOptions → List (List ℕ) → (held holds : Option (List ℕ)) → Type 0
WritesMerge options images held holds = (text : List ℕ) × IsMergeReport options images text × Appends held holds text

-- the sketch that was kept is the merged sketch, and its table hashes under the key of the run
abbrev pub KeepsMerged : MergeOptions → List (List ℕ) → (kept : Option Sketch) → Type 0
KeepsMerged options images kept = IfSome kept (λ s. Merges options.images.max_bytes images s × (s.key ≡ options.images.key))

-- A write has failed with this error. The output received the front of a report on the merged sketch, which was kept before.
abbrev pub StopsMerge : MergeOptions → List (List ℕ) → (kept : Option Sketch) → (write_error : Option Error) → (held holds : Option (List ℕ)) → Error → Type 0
StopsMerge options images kept write_error held holds error =
    (write_error ≡ Some error) × ((text : List ℕ) × IsMergeReport options images text × WritesFront held holds text)
    × KeepsMerged options images kept

-- The writer received an image of the sketch, as `serialize` writes it. If the sketch has items, the bytes are an image of a sketch
-- of these items.
pub record WritesImage (s : Sketch) (held holds : Option (List ℕ)) : Type 0 where
  pub image : List ℕ
  pub spelled : IsSpelledFor text_codec string_bytes image s
  pub wrote : Appends held holds image
  pub items : (size : ℕ) (items : Weighed) → HasItems size items s → IsImageOfItems size image items

-- the sketch that was kept is that of a report: it has the items of what was read of the inputs, and its table hashes under the key of
-- the run
abbrev pub KeepsItems : Options → Option (List (List ℕ)) → (fails : List Bool) → Option Sketch → Type 0
KeepsItems options inputs fails kept = IfSome inputs (λ all. IfSome kept (λ s.
    (read : List (List ℕ)) × AreRead (splits_of options.weighing) fails all read
    × HasItems options.size (flat_map (weighed_of options.weighing) read) s × Counts options read s × (s.key ≡ options.key)))

-- A write has failed with this error. The output received the front of a report, and the sketch was kept before.
abbrev pub StopsTop : Options → Option (List (List ℕ)) → (fails : List Bool) → (kept : Option Sketch) → (write_error : Option Error) → (held holds : Option (List ℕ)) → Error → Type 0
StopsTop options inputs fails kept write_error held holds error =
    (write_error ≡ Some error) × WritesReportFront options inputs fails held holds × KeepsItems options inputs fails kept
