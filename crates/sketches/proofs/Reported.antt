-- What a report of a sketch shows of the items that were added to it.
use Rattle.std.proofs.Common.{◌≡◌, ◌⊎◌, ◌↔◌, inl, inr, ⊎_elim, ℕ, zero, suc, ◌+◌, ◌-◌, ◌*◌, ◌^◌, ◌<◌, ◌≤◌, ◌||◌, max, min, Bool, true, false, cond, List, [], ◌∷◌, length, map, take, get_or, Option, None, Some, refl, sym, ◌∙◌, ap, subst, arith}
use Rattle.std.proofs.lemmas.Bool.{cases_lt, ltb-true}
use Rattle.std.proofs.lemmas.List.{get_or-take, get_or_default, length-take}
use Rattle.std.proofs.lemmas.List.Sums.{sum_by-cons}
use Rattle.std.proofs.lemmas.List.Elements.{All-take}
use Rattle.std.proofs.lemmas.List.Folds.{Any-from_list_any, list_any_at}
use Rattle.std.specs.Cmp.Lexicographic.{bytes_decides}
use Rattle.std.specs.Global.{Global}
use Rattle.std.specs.Io.KnownBytes.{Appends}
use Rattle.std.specs.List.{All, AllByRecursion, AllPairs, IsDistinct, flat_map, list_any}
use Rattle.std.specs.Option.{IfSome}
use Rattle.std.specs.Str.{bytes_eq}
use Rattle.std.specs.String.{string_bytes, string_eq}
use Rattle.std.specs.declared.string.String.{String}
use Rattle.std.specs.declared.io.Error.{Error}
use Rattle.sketch_frequencies.specs.History.{FrequentHistory, true_weight, total_weight, min_sample, min_size, budget_size}
use Rattle.sketch_frequencies.specs.History.FrequentHistory.{New, Update}
use Rattle.sketch_frequencies.specs.Rows.{MissesNone, Shows, ShowsExactly}
use Rattle.sketch_frequencies.specs.Stands.{Encloses as Represents, KeepsTailBudget, StandsFor}
use Rattle.sketch_frequencies.specs.State.{capacity, empty_state, max_sample_size}
use Rattle.sketch_frequencies.specs.SuggestedSizes.{usual_budget}
use Rattle.sketch_frequencies.specs.WeightedBatches.{all_weighed}
use Rattle.sketch_frequencies.specs.declared.error_type.ErrorType.TheVariants.{NoFalseNegatives}
use Rattle.sketch_frequencies.proofs.SuggestedSizes.{error_by_budget}
use Rattle.sketches.specs.Added.{Sketch, AddsWeighed}
use Rattle.sketches.specs.Images.{HasItems, IsMergeReport, IsMergedError, KeepsItems, KeepsMerged, Merges, ReportsItems, StopsMerge, WritesMerge, all_items}
use Rattle.sketches.specs.Inputs.{AreRead}
use Rattle.sketches.specs.Outputs.{WritesFront}
use Rattle.sketches.specs.Reports.{Counts, Row, Encloses, HasAll, IsBefore, IsErrorOf, IsListed, IsReport, Precedes, Reports, ShowsTop, WritesReport, WritesReportFront, report_text}
use Rattle.sketches.specs.Thresholds.{IsAbove}
use Rattle.sketches.specs.Weighed.{Weighed, splits_of, total_of, weight_of, weighed_of}
use Rattle.sketches.specs.declared.print.layout.Layout.{Layout}
use Rattle.sketches.specs.declared.image.merge.MergeOptions.{MergeOptions}
use Rattle.sketches.specs.declared.print.threshold.Threshold.{Threshold}
use Rattle.sketches.specs.declared.count.top.Options.{Options}
use Rattle.sketches.specs.declared.count.top.Summary.{Summary}
use Rattle.sketches.proofs.Counted.{CountsInputs, Numbers}

-- ---- the weights of a history

abbrev named : String Global × ℕ → List ℕ × ℕ
named pair = (string_bytes pair.0, pair.1)

one_more : (items : Weighed) (first : List ℕ × ℕ) (item : List ℕ) → weight_of (first ∷ items) item ≡ cond (bytes_eq first.0 item) first.1 0 + weight_of items item
one_more items first item = sum_by-cons (λ (pair : List ℕ × ℕ). cond (bytes_eq pair.0 item) pair.1 0) first items

weight_in_history : (h : FrequentHistory (String Global)) (items : List (String Global × ℕ)) (x : String Global) → true_weight string_eq (all_weighed h items) x ≡ true_weight string_eq h x + weight_of (map named items) (string_bytes x)
weight_in_history h [] x = omega arith
weight_in_history h (y ∷ ys) x = omega (arith, weight_in_history (Update h y.0 y.1) ys x, one_more (map named ys) (named y) (string_bytes x))

total_in_history : (h : FrequentHistory (String Global)) (items : List (String Global × ℕ)) → total_weight (all_weighed h items) ≡ total_weight h + total_of (map named items)
total_in_history h [] = omega arith
total_in_history h (y ∷ ys) = omega (arith, total_in_history (Update h y.0 y.1) ys, sum_by-cons (λ (pair : List ℕ × ℕ). pair.1) (named y) (map named ys))

sample_of : (h : FrequentHistory (String Global)) (items : List (String Global × ℕ)) → min_sample (all_weighed h items) ≡ min_sample h
sample_of h [] = refl
sample_of h (y ∷ ys) = sample_of (Update h y.0 y.1) ys

size_of : (h : FrequentHistory (String Global)) (items : List (String Global × ℕ)) → min_size (all_weighed h items) ≡ min_size h
size_of h [] = refl
size_of h (y ∷ ys) = size_of (Update h y.0 y.1) ys

occurring_first : (y : String Global) (weight : ℕ) (item : List ℕ) (b : Bool) → bytes_eq (string_bytes y) item ≡ b → (cond (bytes_eq (string_bytes y) item) weight 0 ≡ 0 → (x : String Global) × (string_bytes x ≡ item)) → (x : String Global) × (string_bytes x ≡ item)
occurring_first y weight item true e later = (y, (bytes_decides (string_bytes y) item).0 e)
occurring_first y weight item false e later = later (ap (λ (b : Bool). cond b weight 0) e)

-- an item of a weight above 0 is that of a string
occurring : (items : List (String Global × ℕ)) (item : List ℕ) → 0 < weight_of (map named items) item → (x : String Global) × (string_bytes x ≡ item)
occurring [] item some = absurd (let none : 0 < 0 = some in omega (arith, none))
occurring (y ∷ ys) item some = occurring_first y.0 y.1 item (bytes_eq (string_bytes y.0) item) refl (λ none. occurring ys item (omega (arith, some, none, one_more (map named ys) (named y) item)))

-- ---- few items

record HasStrings (items : List (String Global × ℕ)) (list : List (List ℕ)) : Type 0 where
  strings : List (String Global)
  few : length strings ≤ length list
  cover : (x : String Global) → 0 < weight_of (map named items) (string_bytes x) → list_any (bytes_eq (string_bytes x)) list ≡ true → list_any (string_eq x) strings ≡ true

either_more : (t u v : Bool) → (u ≡ true → v ≡ true) → (t || u) ≡ true → (t || v) ≡ true
either_more true u v f e = refl
either_more false u v f e = f e

second : (t u : Bool) → (t ≡ true → ⊥) → (t || u) ≡ true → u ≡ true
second true u none e = absurd (none refl)
second false u none e = e

-- the items of a list that have a weight above 0, as strings
strings_among : (items : List (String Global × ℕ)) (list : List (List ℕ)) → HasStrings items list
strings_among items [] = record { strings = []; few = omega arith; cover = λ x some any. any }
strings_among items (first ∷ list) =
    let r = strings_among items list in
    ⊎_elim
    (λ some.
    let (x, is) = occurring items first some in
    record {
      strings = x ∷ r.strings;
      few = omega (arith, r.few);
      cover = λ y here any.
          subst (λ (l : List ℕ). (bytes_eq (string_bytes y) l || list_any (string_eq y) r.strings) ≡ true) (sym is)
          (either_more (bytes_eq (string_bytes y) first) (list_any (bytes_eq (string_bytes y)) list) (list_any (string_eq y) r.strings) (r.cover y here) any);
    })
    (λ none. record {
      strings = r.strings;
      few = omega (arith, r.few);
      cover = λ y here any.
          r.cover y here
          (second (bytes_eq (string_bytes y) first) (list_any (bytes_eq (string_bytes y)) list)
          (λ t. omega (arith, here, none, ap (weight_of (map named items)) ((bytes_decides (string_bytes y) first).0 t))) any);
    })
    (cases_lt 0 (weight_of (map named items) first))

-- ---- the first rows

distinct_from : (n : ℕ) (first : Row) (rows : List Row) → AllByRecursion (λ (y : String Global). string_eq first.item y ≡ false) (map (λ (row : Row). row.item) rows) → AllByRecursion (λ (y : String Global). string_eq first.item y ≡ false) (map (λ (row : Row). row.item) (take n rows))
distinct_from zero first rows a = tt
distinct_from (suc n) first [] a = tt
distinct_from (suc n) first (row ∷ rows) a = (a.0, distinct_from n first rows a.1)

distinct_of_first : (n : ℕ) (rows : List Row) → IsDistinct string_eq (map (λ (row : Row). row.item) rows) → IsDistinct string_eq (map (λ (row : Row). row.item) (take n rows))
unfolding IsDistinct
distinct_of_first zero rows d = tt
distinct_of_first (suc n) [] d = tt
distinct_of_first (suc n) (row ∷ rows) d = (distinct_from n row rows d.0, distinct_of_first n rows d.1)

-- ---- a report

-- a row that comes before an item with a number comes before it with a lower one
before_less : (weight number : ℕ) (item : List ℕ) (row : Row) → weight ≤ number → IsBefore number item row → IsBefore weight item row
before_less weight number item row at_most before = ⊎_elim
    (λ less. inl (omega (arith, at_most, less)))
    (λ tie. ⊎_elim (λ less. inl less) (λ more. inr (omega (arith, at_most, more, tie.0), tie.1)) (cases_lt weight row.upper_bound))
    before

module _ (items : List (String Global × ℕ)) (m : ℕ) (s : Sketch) (h : FrequentHistory (String Global)) (so : Represents string_eq s h)
    (weight : (x : String Global) → true_weight string_eq h x ≡ weight_of (map named items) (string_bytes x))
    (total : total_weight h ≡ total_of (map named items)) (table : m ≤ min_size h) (sample : max_sample_size m ≤ min_sample h) (threshold : Threshold) (floor : ℕ) (floor_is : (n : ℕ) → IsAbove threshold (total_of (map named items)) n ↔ (floor < n)) where
  row_encloses : (row : Row) → Shows string_eq NoFalseNegatives floor s row → Encloses (map named items) row
  row_encloses row shows = (
    omega (arith, shows.lower_bound, so.at_least row.item, weight row.item),
    omega (arith, shows.upper_bound, so.at_most row.item, weight row.item),
  )

  ordered : (n : ℕ) (rows : List Row) → AllPairs Precedes rows → AllPairs Precedes (take n rows)
  ordered n rows order i j none less within =
      let len : length (take n rows) ≡ min n (length rows) = length-take n rows in
      let a : get_or (take n rows) i none ≡ get_or rows i none = get_or-take n rows i none (omega (arith, len)) in
      let b : get_or (take n rows) j none ≡ get_or rows j none = get_or-take n rows j none (omega (arith, len)) in
      rw (a, b) (order i j none less (omega (arith, len)))

  row_occurs : (row : Row) → Shows string_eq NoFalseNegatives floor s row → 0 < row.lower_bound
  row_occurs row shows = omega (arith, ltb-true _ _ shows.passing, shows.lower_bound)

  row_above : (row : Row) → Shows string_eq NoFalseNegatives floor s row → IsAbove threshold (total_of (map named items)) row.upper_bound
  row_above row shows = (floor_is row.upper_bound).1 (omega (arith, ltb-true _ _ shows.passing, shows.upper_bound))

  -- a row that comes before another one comes before its item
  lighter : (x : String Global) (row above : Row) → string_bytes x ≡ string_bytes row.item → Precedes above row → Shows string_eq NoFalseNegatives floor s row → IsBefore (weight_of (map named items) (string_bytes x)) (string_bytes x) above
  lighter x row above bytes order shown =
      subst (λ (t : List ℕ). IsBefore (weight_of (map named items) t) t above) (sym bytes)
      (before_less (weight_of (map named items) (string_bytes row.item)) row.upper_bound (string_bytes row.item) above (row_encloses row shown).1 order)

  listed_or_lighter : (top n : ℕ) (rows : List Row) → n ≡ min top (length rows) → ShowsExactly string_eq NoFalseNegatives floor s rows → AllPairs Precedes rows → (x : String Global) → list_any (λ (row : Row). string_eq x row.item) rows ≡ true
      → IsListed (take n rows) (string_bytes x) ⊎ ((length (take n rows) ≡ top) × All (IsBefore (weight_of (map named items) (string_bytes x)) (string_bytes x)) (take n rows))
  listed_or_lighter top n rows is exact order x any =
      let (k, row, less, here, same) = Any-from_list_any (λ (row : Row). string_eq x row.item) rows any in
      let len : length (take n rows) ≡ min n (length rows) = length-take n rows in
      ⊎_elim
      (λ before. inl (list_any_at (λ (row : Row). string_eq x row.item) (take n rows) k row (omega (arith, len))
      (ap (λ (r : Row). string_eq x r.item) (get_or-take n rows k row before ∙ here) ∙ same)))
      (λ after. inr (
        omega (arith, len, is),
        λ j none within.
            let at : get_or (take n rows) j none ≡ get_or rows j none = get_or-take n rows j none (omega (arith, len)) in
            let whole : get_or rows j none ≡ get_or rows j row = get_or_default rows j none row (omega (arith, len)) in
            let shown_row : Shows string_eq NoFalseNegatives floor s row = subst (Shows string_eq NoFalseNegatives floor s) here (exact.shown k row less) in
            let ahead : Precedes (get_or rows j row) row = subst (Precedes (get_or rows j row)) here (order j k row (omega (arith, len)) less) in
            let bytes : string_bytes x ≡ string_bytes row.item = (bytes_decides (string_bytes x) (string_bytes row.item)).0 same in
            subst (IsBefore (weight_of (map named items) (string_bytes x)) (string_bytes x)) (sym (at ∙ whole)) (lighter x row (get_or rows j row) bytes ahead shown_row),
      ))
      (cases_lt k n)

  error_share : KeepsTailBudget string_eq s h → usual_budget m * s.error ≤ total_of (map named items)
  error_share keeps =
      let few : usual_budget m ≤ budget_size h = omega (arith, sample) in
      let bound : usual_budget m * s.error ≤ total_weight h = error_by_budget string_eq s h (usual_budget m) so keeps few in
      omega (arith, bound, total)

  error_exact : (distinct : List (List ℕ)) → length distinct ≤ capacity m → HasAll distinct (map named items) → s.error ≡ 0
  error_exact distinct fit all =
      let r = strings_among items distinct in
      so.exact (record {
        items = r.strings;
        fit = omega (arith, r.few, fit, table);
        cover = λ x some.
            let here : 0 < weight_of (map named items) (string_bytes x) = omega (arith, some, weight x) in
            r.cover x here (all (string_bytes x) here);
      })

  pub reports : KeepsTailBudget string_eq s h → (top n : ℕ) (rows : List Row) → n ≡ min top (length rows) → ShowsExactly string_eq NoFalseNegatives floor s rows → AllPairs Precedes rows → MissesNone string_eq floor s rows → Reports (map named items) m threshold top s.error (take n rows)
  reports keeps top n rows is exact order misses = record {
    few = let len : length (take n rows) ≡ min n (length rows) = length-take n rows in omega (arith, len, is);
    enclosed = All-take (Encloses (map named items)) n rows (λ k d less. row_encloses _ (exact.shown k d less));
    width = All-take (λ (row : Row). row.upper_bound ≡ row.lower_bound + s.error) n rows (λ k d less. omega (arith, (exact.shown k d less).upper_bound, (exact.shown k d less).lower_bound));
    above = All-take (λ (row : Row). IsAbove threshold (total_of (map named items)) row.upper_bound) n rows (λ k d less. row_above _ (exact.shown k d less));
    once = distinct_of_first n rows exact.once;
    occurring = All-take (λ (row : Row). 0 < row.lower_bound) n rows (λ k d less. row_occurs _ (exact.shown k d less));
    order = ordered n rows order;
    missing = λ item more above.
        let (x, is_item) = occurring items item (omega (arith, more)) in
        let heavy : max floor s.error < true_weight string_eq h x = (let c : weight_of (map named items) (string_bytes x) ≡ weight_of (map named items) item = ap (weight_of (map named items)) is_item in omega (arith, more, (floor_is (weight_of (map named items) item)).0 above, c, weight x)) in
        subst (λ (t : List ℕ). IsListed (take n rows) t ⊎ ((length (take n rows) ≡ top) × All (IsBefore (weight_of (map named items) t) t) (take n rows))) is_item
        (listed_or_lighter top n rows is exact order x (misses _ so x heavy));
    share = error_share keeps;
    exact = error_exact;
  }

-- the rows of a sketch of items
pub reported_rows : (size : ℕ) (items : Weighed) (layout : Layout) (threshold : Threshold) (top : ℕ) (s : Sketch) (text : List ℕ) → HasItems size items s → ShowsTop s layout threshold top text
    → (rows : List Row) × (text ≡ report_text layout s.error (total_of items) rows) × Reports items size threshold top s.error rows
reported_rows size items layout threshold top s text has shows =
    let so : Represents string_eq s has.history = has.stands.encloses in
    let n : ℕ = min top (length shows.rows) in
    let total : s.total ≡ total_of items = so.total ∙ has.total in (
      take n shows.rows,
      shows.written ∙ ap (λ (t : ℕ). report_text layout s.error t (take n shows.rows)) total,
      subst (λ (t : Weighed). Reports t size threshold top s.error (take n shows.rows)) has.are
          (reports has.strings size s has.history so (λ x. has.weights x ∙ ap (λ (l : Weighed). weight_of l (string_bytes x)) (sym has.are)) (has.total ∙ ap total_of (sym has.are)) has.table has.sample threshold shows.floor
          (subst (λ (t : ℕ). (n : ℕ) → IsAbove threshold t n ↔ (shows.floor < n)) (total ∙ ap total_of (sym has.are)) shows.above)
          has.budget top n shows.rows refl shows.exact shows.order shows.misses),
    )

-- a report on a sketch of items
pub reported_items : (size : ℕ) (items : Weighed) (layout : Layout) (threshold : Threshold) (top : ℕ) (s : Sketch) (text : List ℕ) → HasItems size items s → ShowsTop s layout threshold top text → ReportsItems size items layout threshold top text
reported_items size items layout threshold top s text has shows =
    let r = reported_rows size items layout threshold top s text has shows in
    record { error = s.error; exactly = shows.exactly; rows = r.0; written = r.1; reports = r.2 }

-- a sketch has the items that were added to a new one
pub added_items : (m : ℕ) (start s : Sketch) (items : Weighed) → StandsFor string_eq start (New m (max_sample_size m)) → KeepsTailBudget string_eq start (New m (max_sample_size m)) → AddsWeighed start items s → HasItems m items s
added_items m start s items new keeps added =
    let zero : FrequentHistory (String Global) = New m (max_sample_size m) in
    record {
      strings = added.items;
      are = added.are;
      history = all_weighed zero added.items;
      stands = added.stands zero new;
      budget = added.budget zero new keeps;
      weights = λ x. let e = weight_in_history zero added.items x in let none : true_weight string_eq zero x ≡ 0 = refl in omega (arith, e, none, ap (λ (l : Weighed). weight_of l (string_bytes x)) added.are);
      total = let none : total_weight zero ≡ 0 = refl in omega (arith, total_in_history zero added.items, none, ap total_of added.are);
      table = omega (arith, size_of zero added.items);
      sample = omega (arith, sample_of zero added.items);
    }

-- the numbers of a summary, which fit a `u64`
abbrev pub noted : Summary → Numbers
noted summary = (summary.not_utf8, summary.unweighed)

abbrev pub AreNoted : Summary → Type 0
AreNoted summary = (summary.not_utf8 ≤ 2 ^ 64 - 1) × (summary.unweighed ≤ 2 ^ 64 - 1)

-- the report of what was counted
made_report : (options : Options) (all : List (List ℕ)) (fails : List Bool) (summary : Summary) (start s : Sketch) (text : List ℕ)
    → StandsFor string_eq start (New options.size (max_sample_size options.size)) → KeepsTailBudget string_eq start (New options.size (max_sample_size options.size)) → start ≡ empty_state options.size (max_sample_size options.size) options.key
    → CountsInputs options.weighing (Some all) fails start s (0, 0) (noted summary) → AreNoted summary → ShowsTop s options.layout options.threshold options.rows text → IsReport options all fails summary text
made_report options all fails summary start s text new keeps empty (read, are, added, (grown, skipped)) fits shows =
    let items : Weighed = flat_map (weighed_of options.weighing) read in
    let r = reported_rows options.size items options.layout options.threshold options.rows s text (added_items options.size start s items new keeps added.0) shows in
    (read, s, r.0, are, (omega (arith, grown, fits.0), omega (arith, skipped, fits.1)), added.1, subst (λ (t : Sketch). AddsWeighed t items s) empty added.0, r.1, r.2, shows.exactly)

pub reported : (options : Options) (inputs : Option (List (List ℕ))) (fails : List Bool) (summary : Summary) (held holds : Option (List ℕ)) (start s : Sketch) (text : List ℕ)
    → StandsFor string_eq start (New options.size (max_sample_size options.size)) → KeepsTailBudget string_eq start (New options.size (max_sample_size options.size)) → start ≡ empty_state options.size (max_sample_size options.size) options.key
    → CountsInputs options.weighing inputs fails start s (0, 0) (noted summary) → AreNoted summary → ShowsTop s options.layout options.threshold options.rows text → Appends held holds text → WritesReport options inputs fails summary held holds
reported options None fails summary held holds start s text new keeps empty counted fits shows wrote = tt
reported options (Some all) fails summary held holds start s text new keeps empty counted fits shows wrote = (text, made_report options all fails summary start s text new keeps empty counted fits shows, wrote)

pub reported_front : (options : Options) (inputs : Option (List (List ℕ))) (fails : List Bool) (summary : Summary) (held holds : Option (List ℕ)) (start s : Sketch) (text : List ℕ)
    → StandsFor string_eq start (New options.size (max_sample_size options.size)) → KeepsTailBudget string_eq start (New options.size (max_sample_size options.size)) → start ≡ empty_state options.size (max_sample_size options.size) options.key
    → CountsInputs options.weighing inputs fails start s (0, 0) (noted summary) → AreNoted summary → ShowsTop s options.layout options.threshold options.rows text → WritesFront held holds text → WritesReportFront options inputs fails held holds
reported_front options None fails summary held holds start s text new keeps empty counted fits shows wrote = tt
reported_front options (Some all) fails summary held holds start s text new keeps empty counted fits shows wrote = (summary, text, made_report options all fails summary start s text new keeps empty counted fits shows, wrote)

-- the error of what was counted
pub error_of : (options : Options) (inputs : Option (List (List ℕ))) (fails : List Bool) (summary : Summary) (start s : Sketch) (error : ℕ) → start ≡ empty_state options.size (max_sample_size options.size) options.key
    → CountsInputs options.weighing inputs fails start s (0, 0) (noted summary) → AreNoted summary → error ≡ s.error → IsErrorOf options inputs fails summary error
error_of options None fails summary start s error empty counted fits is = tt
error_of options (Some all) fails summary start s error empty (read, are, added, (grown, skipped)) fits is =
    (read, s, are, (omega (arith, grown, fits.0), omega (arith, skipped, fits.1)), added.1, subst (λ (t : Sketch). AddsWeighed t (flat_map (weighed_of options.weighing) read) s) empty added.0, is)

-- a report on a merged sketch
made_merge : (options : MergeOptions) (all : List (List ℕ)) (s : Sketch) (text : List ℕ) → Merges options.images.max_bytes all s → ShowsTop s options.layout options.threshold options.rows text → IsMergeReport options all text
made_merge options all s text merges shows = record {
  sketch = s;
  merges = merges;
  shows = shows;
  items = λ size lists are. reported_items size (all_items lists) options.layout options.threshold options.rows s text (merges.items size lists are) shows;
}

pub merge_reported : (options : MergeOptions) (was : Option (List (List ℕ))) (s : Sketch) (held holds : Option (List ℕ)) (text : List ℕ)
    → IfSome was (λ all. Merges options.images.max_bytes all s) → ShowsTop s options.layout options.threshold options.rows text → Appends held holds text → IfSome was (λ all. WritesMerge options all held holds)
merge_reported options None s held holds text merges shows wrote = tt
merge_reported options (Some all) s held holds text merges shows wrote = (text, made_merge options all s text merges shows, wrote)

-- ---- a sketch that is kept

same_kept : (P : Sketch → Type 0) (kept : Option Sketch) (s : Sketch) → IfSome kept (λ t. t ≡ s) → P s → IfSome kept P
same_kept P None s is p = tt
same_kept P (Some t) s is p = subst P (sym is) p

pub merge_kept : (limit : ℕ) (was : Option (List (List ℕ))) (kept : Option Sketch) (s : Sketch) → IfSome was (λ all. Merges limit all s) → IfSome kept (λ t. t ≡ s) → IfSome was (λ all. IfSome kept (Merges limit all))
merge_kept limit None kept s merges is = tt
merge_kept limit (Some all) kept s merges is = same_kept (Merges limit all) kept s is merges

-- it is kept with its key
pub merge_kept_after : (options : MergeOptions) (was : Option (List (List ℕ))) (s : Sketch) (kept : Option Sketch) → IfSome was (λ all. Merges options.images.max_bytes all s) → s.key ≡ options.images.key → IfSome kept (λ t. t ≡ s) → IfSome was (λ all. KeepsMerged options all kept)
merge_kept_after options None s kept merges key is = tt
merge_kept_after options (Some all) s kept merges key is = same_kept (λ t. Merges options.images.max_bytes all t × (t.key ≡ options.images.key)) kept s is (merges, key)

pub merge_error : (options : MergeOptions) (was : Option (List (List ℕ))) (s : Sketch) (error : ℕ) → IfSome was (λ all. Merges options.images.max_bytes all s) → error ≡ s.error → IfSome was (λ all. IsMergedError options all error)
merge_error options None s error merges is = tt
merge_error options (Some all) s error merges is = (s, merges, is)

-- a write of the report on a merged sketch failed
pub merge_stopped : (options : MergeOptions) (was : Option (List (List ℕ))) (s : Sketch) (kept : Option Sketch) (write_error : Option Error) (held holds : Option (List ℕ)) (error : Error) (text : List ℕ)
    → IfSome was (λ all. Merges options.images.max_bytes all s) → s.key ≡ options.images.key → IfSome kept (λ t. t ≡ s) → ShowsTop s options.layout options.threshold options.rows text → write_error ≡ Some error → WritesFront held holds text
    → IfSome was (λ all. StopsMerge options all kept write_error held holds error)
merge_stopped options None s kept write_error held holds error text merges key is shows failed wrote = tt
merge_stopped options (Some all) s kept write_error held holds error text merges key is shows failed wrote =
    (failed, (text, made_merge options all s text merges shows, wrote), merge_kept_after options (Some all) s kept merges key is)

pub items_kept : (options : Options) (inputs : Option (List (List ℕ))) (fails : List Bool) (kept : Option Sketch) (start s : Sketch)
    → StandsFor string_eq start (New options.size (max_sample_size options.size)) → KeepsTailBudget string_eq start (New options.size (max_sample_size options.size)) → start ≡ empty_state options.size (max_sample_size options.size) options.key
    → (before after : Numbers) → CountsInputs options.weighing inputs fails start s before after → IfSome kept (λ t. t ≡ s) → KeepsItems options inputs fails kept
items_kept options None fails kept start s new keeps empty before after counted is = tt
items_kept options (Some all) fails kept start s new keeps empty before after (read, are, added, grown) is =
    same_kept (λ t. (read : List (List ℕ)) × AreRead (splits_of options.weighing) fails all read × HasItems options.size (flat_map (weighed_of options.weighing) read) t × Counts options read t × (t.key ≡ options.key)) kept s is
    (read, are, added_items options.size start s (flat_map (weighed_of options.weighing) read) new keeps added.0, subst (λ (t : Sketch). AddsWeighed t (flat_map (weighed_of options.weighing) read) s) empty added.0, added.0.key ∙ ap (λ (t : Sketch). t.key) empty)
