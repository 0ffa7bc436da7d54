-- The weights of keys that are printed, and why a run ended without.
use Rattle.std.proofs.Common.{◌≡◌, ⊎_elim, inl, inr, ℕ, ◌+◌, ◌-◌, ◌^◌, ◌<◌, ◌≤◌, Bool, true, false, cond, List, [], ◌∷◌, ◌++◌, get_or, map, Option, None, Some, IfSome, pos, ◌+ℤ◌, append-nil, refl, sym, ◌∙◌, ap, subst, arith}
use Rattle.std.proofs.lemmas.Bool.{eq-eqb, false≢true}
use Rattle.std.proofs.lemmas.Int.{ints}
use Rattle.std.proofs.lemmas.List.Concat.{flat_map-append}
use Rattle.std.proofs.lemmas.List.Elements.{All-nil}
use Rattle.std.proofs.lemmas.List.Sums.{sum_by-cons}
use Rattle.std.proofs.lemmas.Slice.Eq.{bytes_eq-Decides}
use Rattle.std.specs.Io.KnownBytes.{Appends}
use Rattle.std.specs.List.{AllZip, flat_map}
use Rattle.std.specs.Prelude.{◌==◌, All, sum_by}
use Rattle.std.specs.Str.{bytes_eq}
use Rattle.std.specs.declared.io.Error.{Error}
use Rattle.sketch_countmin.specs.Buckets.{bucket_of}
use Rattle.sketch_countmin.specs.History.{CountHistory, each_updated, of_first, value_over}
use Rattle.sketch_countmin.specs.History.CountHistory.{New, Update}
use Rattle.sketch_countmin.specs.Stands.{StandsFor}
use Rattle.sketch_countmin.specs.State.{CountState, IsMinCell, item_cell}
use Rattle.sketch_countmin.proofs.Estimates.{bucket_below}
use Rattle.sketches.specs.AddingLaws.{records_both}
use Rattle.sketches.specs.Failures.{FailsWriting}
use Rattle.sketches.specs.Inputs.{AreRead, FailsAmong, FailsBegun, FailsInputs, FailsTakingInputs, HaveLongRecord, TakesBegun, TakesEach, TakesInputs}
use Rattle.sketches.specs.LineNumbers.{HaveUnweighed, IsFirstUnweighed, lines_of}
use Rattle.sketches.specs.KeyWeightLaws.{all_lines, no_lines, some_whole}
use Rattle.sketches.specs.KeyWeights.{CountsLines, CountsWeighed, IsEmptyTable, IsWeightOf, Row, WritesEstimates, WritesSomeEstimates, WritesSomeWeights, WritesWeights, bucket_weight, counted, parts_in, total_line, unweighed_in, unweighed_line, usable_seed, weighed_in, weighed_line, weighed_lines}
use Rattle.sketches.specs.Reading.{AreFirstRecords, FailsInput, TakesInput}
use Rattle.sketch_text.specs.Records.{records_by, splits_by}
use Rattle.sketches.specs.Skipped.{skipped_rows}
use Rattle.sketches.specs.SkippedLaws.{rows_append, skips_none}
use Rattle.sketches.specs.Unseen.{hashed}
use Rattle.sketches.specs.Utf8Lines.{GrowsBy}
use Rattle.sketches.specs.Appending.{appends_both, front_after, front_more}
use Rattle.sketches.specs.Outputs.{WritesFront}
use Rattle.sketches.specs.WeighFailures.{ComesLate, FailsLines, FailsWeigh}
use Rattle.sketches.specs.Weighed.{Weighed, total_of}
use Rattle.sketches.specs.WeighingLaws.{total_both}
use Rattle.sketches.specs.declared.failure.BadWeight.{BadWeight as BadWeightValue}
use Rattle.sketches.specs.declared.failure.Failure.{Failure}
use Rattle.sketches.specs.declared.failure.Failure.TheVariants.{Memory, LineTooLong, TooManyItems, BadSize, BadWeight, Write}
use Rattle.sketches.specs.declared.weight.item_weigher.ItemWeigher.{ItemWeigher}
use Rattle.sketches.specs.declared.item.weighing.WeighedRecord.{WeighedRecord}
use Rattle.sketches.specs.declared.item.weighing.Weighing.TheVariants.{Record}
use Rattle.sketches.specs.declared.weight.key_weights.KeyWeights.{KeyWeights}
use Rattle.sketches.specs.declared.print.layout.Style.{Style}
use Rattle.sketch_text.specs.declared.record_part.RecordPart.{RecordPart}
use Rattle.sketches.specs.declared.weight.weigh.WeighOptions.{WeighOptions}

-- ---- the weight in a bucket

-- the weight of the items that pass a test
abbrev weight_where : (List ℕ → Bool) → Weighed → ℕ
weight_where test items = sum_by (λ pair. cond (test pair.0) pair.1 0) items

kept_weight : (t : Bool) (w : ℕ) → cond t (pos w) (pos 0) ≡ pos (cond t w 0)
kept_weight true w = refl
kept_weight false w = refl

-- what a history with more items gives to those that pass a test
value_each : (h : CountHistory) (test : List ℕ → Bool) (items : Weighed) → value_over (each_updated h (map counted items)) test ≡ value_over h test +ℤ pos (weight_where (λ item. test (hashed item)) items)
value_each h test [] = omega (arith, ints)
value_each h test (x ∷ items) =
    let weight : List ℕ × ℕ → ℕ = λ pair. cond (test (hashed pair.0)) pair.1 0 in
    omega (arith, ints, value_each (Update h (hashed x.0) (pos x.1)) test items, kept_weight (test (hashed x.0)) x.1, sum_by-cons weight x items)

-- more items weigh no less
one_mono : (s t : Bool) (w : ℕ) → (s ≡ true → t ≡ true) → cond s w 0 ≤ cond t w 0
one_mono true true w more = omega arith
one_mono true false w more = absurd (false≢true (more refl))
one_mono false t w more = omega arith

one_within : (t : Bool) (w : ℕ) → cond t w 0 ≤ w
one_within true w = omega arith
one_within false w = omega arith

weight_mono : (f g : List ℕ → Bool) (items : Weighed) → ((x : List ℕ) → f x ≡ true → g x ≡ true) → weight_where f items ≤ weight_where g items
weight_mono f g [] more = omega arith
weight_mono f g (x ∷ items) more =
    let first : List ℕ × ℕ → ℕ = λ pair. cond (f pair.0) pair.1 0 in
    let second : List ℕ × ℕ → ℕ = λ pair. cond (g pair.0) pair.1 0 in
    omega (arith, weight_mono f g items more, one_mono (f x.0) (g x.0) x.1 (more x.0), sum_by-cons first x items, sum_by-cons second x items)

pub weight_within : (f : List ℕ → Bool) (items : Weighed) → weight_where f items ≤ total_of items
weight_within f [] = omega arith
weight_within f (x ∷ items) =
    let weight : List ℕ × ℕ → ℕ = λ pair. cond (f pair.0) pair.1 0 in
    let all : List ℕ × ℕ → ℕ = λ pair. pair.1 in
    omega (arith, weight_within f items, one_within (f x.0) x.1, sum_by-cons weight x items, sum_by-cons all x items)

-- a key is in its own bucket
own_bucket : (d seed r : ℕ) (key other : List ℕ) → bytes_eq other key ≡ true → (bucket_of d seed r (hashed other) == bucket_of d seed r (hashed key)) ≡ true
own_bucket d seed r key other same = eq-eqb (bucket_of d seed r (hashed other)) (bucket_of d seed r (hashed key)) (ap (λ (x : List ℕ). bucket_of d seed r (hashed x)) ((bytes_eq-Decides other key).0 same))

plus_none : (n : ℕ) → pos 0 +ℤ pos n ≡ pos n
plus_none n = omega (arith, ints)

-- the least cell of a key, where all its cells are known
module _ (s : CountState) (items : Weighed) (row : Row) where
  abbrev cell_weight : ℕ → ℕ
  cell_weight r = bucket_weight s.buckets s.seed items row.1 r

  is_weight : ((r : ℕ) → r < s.hashes → item_cell s (hashed row.1) r ≡ pos (cell_weight r)) → IsMinCell s (hashed row.1) (pos row.0) → IsWeightOf s.hashes s.buckets s.seed items row
  is_weight cell least =
      let found = least.reached in
      let here : row.0 ≡ cell_weight found.0 = omega (arith, ints, found.2, cell found.0 found.1) in
      let same : List ℕ → Bool = λ item. bytes_eq item row.1 in
      let near : List ℕ → Bool = λ item. bucket_of s.buckets s.seed found.0 (hashed item) == bucket_of s.buckets s.seed found.0 (hashed row.1) in
      record {
        enough = omega (arith, here, weight_mono same near items (own_bucket s.buckets s.seed found.0 row.1));
        within = omega (arith, here, weight_within near items);
        below = λ r less. omega (arith, ints, least.below r less, cell r less);
        reached = (found.0, found.1, here);
      }

cells_are : (hashes buckets seed : ℕ) (s : CountState) (items : Weighed) (key : List ℕ) → 0 < s.buckets → StandsFor s (each_updated (New hashes buckets seed) (map counted items)) → (r : ℕ) → r < s.hashes
    → item_cell s (hashed key) r ≡ pos (bucket_weight s.buckets s.seed items key r)
cells_are hashes buckets seed s items key some stands r less =
    let b : ℕ = bucket_of s.buckets s.seed r (hashed key) in
    stands.cells r less b (bucket_below s.buckets s.seed r (hashed key) some)
    ∙ (value_each (New hashes buckets seed) (λ bytes. bucket_of s.buckets s.seed r bytes == b) items
    ∙ plus_none (bucket_weight s.buckets s.seed items key r))

first_each : (f : ℕ → ℕ → ℕ → ℕ) (h : CountHistory) (items : Weighed) → of_first f (each_updated h (map counted items)) ≡ of_first f h
first_each f h [] = refl
first_each f h (x ∷ items) = first_each f (Update h (hashed x.0) (pos x.1)) items

-- the numbers of a sketch that has these items
are_weights : (made s : CountState) (seed : ℕ) (items : Weighed) (rows : List Row) → 0 < made.buckets → StandsFor made (New made.hashes made.buckets seed) → CountsWeighed made items s → All (λ row. IsMinCell s (hashed row.1) (pos row.0)) rows
    → All (IsWeightOf made.hashes made.buckets seed items) rows
are_weights made s seed items rows some new adds estimates =
    let stands = adds.stands (New made.hashes made.buckets seed) new in
    let hashes : s.hashes ≡ made.hashes = stands.hashes ∙ first_each (λ hashes buckets seed. hashes) (New made.hashes made.buckets seed) items in
    let buckets : s.buckets ≡ made.buckets = stands.buckets ∙ first_each (λ hashes buckets seed. buckets) (New made.hashes made.buckets seed) items in
    let seeds : s.seed ≡ seed = stands.seed ∙ first_each (λ hashes buckets seed. seed) (New made.hashes made.buckets seed) items in
    let enough : 0 < s.buckets = omega (arith, buckets, some) in
    λ k d less.
    subst (λ (n : ℕ). IsWeightOf made.hashes made.buckets n items (get_or rows k d)) seeds
    (subst (λ (n : ℕ). IsWeightOf made.hashes n s.seed items (get_or rows k d)) buckets
    (subst (λ (n : ℕ). IsWeightOf n s.buckets s.seed items (get_or rows k d)) hashes
    (is_weight s items (get_or rows k d) (cells_are made.hashes made.buckets seed s items (get_or rows k d).1 enough stands) (estimates k d less))))

-- ---- what was weighed of inputs

abbrev Weigher : Type 0
Weigher = ItemWeigher × Unit {0}

-- what the sink does with an input, and with bytes of its records
abbrev pub Begins : ItemWeigher → ItemWeigher → Type 0
Begins old new = new ≡ record { sketch = old.sketch; chosen = old.chosen; count = 0; unweighed = old.unweighed }

abbrev pub WeighsWithin : Weigher → List ℕ → Weigher → Type 0
WeighsWithin old bytes new =
    (CountsLines old.0.chosen old.0.sketch (records_by old.0.chosen.item bytes) new.0.sketch × (new.0.chosen ≡ old.0.chosen))
    × GrowsBy old.0.unweighed (skipped_rows old.0.chosen (records_by old.0.chosen.item bytes)) new.0.unweighed
    × GrowsBy old.0.count (lines_of (splits_by old.0.chosen.item) (records_by old.0.chosen.item bytes)) new.0.count

abbrev pub FailsWithin : Weigher → List ℕ → Weigher → Failure → Type 0
FailsWithin old bytes new failure = FailsLines old.0.chosen old.0.sketch.total old.0.count (records_by old.0.chosen.item bytes) failure

abbrev pub Weighs : Weigher → List ℕ → Weigher → Type 0
Weighs old bytes new = TakesBegun Begins WeighsWithin old bytes new

abbrev pub FailsWeighs : Weigher → List ℕ → Weigher → Failure → Type 0
FailsWeighs old bytes new failure = FailsBegun Begins FailsWithin old bytes new failure

-- without the number of its lines
abbrev WeighsItems : Weigher → List ℕ → Weigher → Type 0
WeighsItems old bytes new =
    (CountsLines old.0.chosen old.0.sketch (records_by old.0.chosen.item bytes) new.0.sketch × (new.0.chosen ≡ old.0.chosen))
    × GrowsBy old.0.unweighed (skipped_rows old.0.chosen (records_by old.0.chosen.item bytes)) new.0.unweighed

items_weighed : (old new : Weigher) (bytes : List ℕ) → Weighs old bytes new → WeighsItems old bytes new
items_weighed old new bytes (begun, is, taken) = subst (λ (b : ItemWeigher). WeighsItems (b, old.1) bytes new) is (taken.0, taken.1)

weighing_failed : (old new : Weigher) (bytes : List ℕ) (e : Failure) → FailsWeighs old bytes new e → FailsLines old.0.chosen old.0.sketch.total 0 (records_by old.0.chosen.item bytes) e
weighing_failed old new bytes e (begun, is, f) = subst (λ (b : ItemWeigher). FailsLines b.chosen b.sketch.total b.count (records_by b.chosen.item bytes) e) is f

abbrev WeighsAll : WeighedRecord → (old : CountState) → List (List ℕ) → Weigher → Type 0
WeighsAll p old read new = CountsLines p old (flat_map (records_by p.item) read) new.0.sketch × (new.0.chosen ≡ p)

-- the items of each list were added
each_weighed : (old new : Weigher) (read : List (List ℕ)) → TakesEach Weighs old read new → WeighsAll old.0.chosen old.0.sketch read new
each_weighed old new [] same = subst (λ (s : Weigher). WeighsAll old.0.chosen old.0.sketch [] s) (sym same) (no_lines old.0.chosen old.0.sketch, refl)
each_weighed old new (bytes ∷ read) (mid, one, rest) =
    let ((first, kept), _) = items_weighed old mid bytes one in
    let (later, kept') = each_weighed mid new read rest in (
      all_lines old.0.chosen old.0.sketch mid.0.sketch new.0.sketch (records_by old.0.chosen.item bytes) (flat_map (records_by old.0.chosen.item) read) first
          (subst (λ (p : WeighedRecord). CountsLines p mid.0.sketch (flat_map (records_by p.item) read) new.0.sketch) kept later),
      kept' ∙ kept,
    )

-- the number of records without a weight, and whose weight is 0, grew by those of each list
each_skipped : (old new : Weigher) (read : List (List ℕ)) → TakesEach Weighs old read new → GrowsBy old.0.unweighed (skipped_rows old.0.chosen (flat_map (records_by old.0.chosen.item) read)) new.0.unweighed
each_skipped old new [] same =
    subst (λ (s : Weigher). GrowsBy old.0.unweighed (skipped_rows old.0.chosen []) s.0.unweighed) (sym same) (skips_none (Record old.0.chosen) old.0.unweighed)
each_skipped old new (bytes ∷ read) (mid, one, rest) =
    let ((_, kept), first) = items_weighed old mid bytes one in
    let p : WeighedRecord = old.0.chosen in
    let later = subst (λ (q : WeighedRecord). GrowsBy mid.0.unweighed (skipped_rows q (flat_map (records_by q.item) read)) new.0.unweighed) kept (each_skipped mid new read rest) in
    omega (arith, first, later, rows_append p (records_by p.item bytes) (flat_map (records_by p.item) read))

-- ---- what was written

module _ {W : Type 0} (contents : W → Option (List ℕ)) where
  -- what the sink does with records of keys
  abbrev pub WritesKeys : KeyWeights × W → List ℕ → KeyWeights × W → Type 0
  WritesKeys old bytes new =
      WritesEstimates old.0.style old.0.sketch (parts_in old.0.part bytes) (contents old.1) (contents new.1)
      × (new.0.sketch ≡ old.0.sketch) × (new.0.part ≡ old.0.part) × (new.0.style ≡ old.0.style)

  abbrev pub FailsKeys : (write_error : W → Option Error) → KeyWeights × W → List ℕ → KeyWeights × W → Failure → Type 0
  FailsKeys write_error old bytes new failure =
      FailsWriting (write_error new.1) failure × WritesSomeEstimates old.0.style old.0.sketch (parts_in old.0.part bytes) (contents old.1) (contents new.1)

  -- what was read of the inputs, and its weights in the table
  record HasWeighed (options : WeighOptions) (inputs : List (List ℕ)) (fails : List Bool) (made : CountState) (weighed : Weigher) : Type 0 where
    read : List (List ℕ)
    are : AreRead (splits_by options.chosen.item) fails inputs read
    adds : CountsWeighed made (weighed_in options.chosen read) weighed.0.sketch
    each : unweighed_in options.chosen read ≡ []

  has_weighed : (options : WeighOptions) (inputs : List (List ℕ)) (fails : List Bool) (complete : Bool) (made : CountState) (weigher weighed : Weigher) → weigher.0.sketch ≡ made → weigher.0.chosen ≡ options.chosen
      → TakesInputs (splits_by options.chosen.item) Weighs (Some inputs) fails complete weigher weighed → HasWeighed options inputs fails made weighed
  has_weighed options inputs fails complete made weigher weighed begin part (is, (read, are, each)) =
      let counts : CountsLines options.chosen made (flat_map (records_by options.chosen.item) read) weighed.0.sketch =
      subst (λ (p : WeighedRecord). CountsLines p made (flat_map (records_by p.item) read) weighed.0.sketch) part (subst (λ (s : CountState). CountsLines weigher.0.chosen s (flat_map (records_by weigher.0.chosen.item) read) weighed.0.sketch) begin (each_weighed weigher weighed read each).0) in
      record { read = read; are = are; adds = counts.0; each = counts.1 }

  total_is : (made : CountState) (items : Weighed) (weighed : CountState) (total : ℕ) → made.total ≡ 0 → CountsWeighed made items weighed → pos total ≡ pos weighed.total → total ≡ total_of items
  total_is made items weighed total none adds sum = omega (arith, ints, sum, adds.total, none)

  -- the front of the weights of the first keys was written
  some_of_keys : (options : WeighOptions) (inputs : List (List ℕ)) (keys read_keys : List ℕ) (fails : List Bool) (complete : Bool) (made : CountState) (weigher weighed : Weigher) (total : ℕ) (held mid holds : Option (List ℕ))
      → IsEmptyTable options.parts options.questions options.seed made → weigher.0.sketch ≡ made → weigher.0.chosen ≡ options.chosen → TakesInputs (splits_by options.chosen.item) Weighs (Some inputs) fails complete weigher weighed
      → pos total ≡ pos weighed.0.sketch.total → Appends held mid (total_line options.style options.header total) → AreFirstRecords (splits_by options.keys_part) keys read_keys → WritesSomeEstimates options.style weighed.0.sketch (parts_in options.keys_part read_keys) mid holds
      → WritesSomeWeights options inputs fails keys held holds
  some_of_keys options inputs keys read_keys fails complete made weigher weighed total held mid holds empty begin part weighs sum wrote front some =
      let so = has_weighed options inputs fails complete made weigher weighed begin part weighs in
      let items : Weighed = weighed_in options.chosen so.read in
      let all : total ≡ total_of items = total_is made items weighed.0.sketch total (ap (λ (s : CountState). s.total) empty.is) so.adds sum in
      record {
        read = so.read;
        are = so.are;
        each = so.each;
        hashes = made.hashes;
        buckets = made.buckets;
        table = empty.sizes;
        read_keys = read_keys;
        front = front;
        rows = some.rows;
        later = some.later;
        keys_are = some.parts ∙ ap (λ l. l ++ some.later) (sym some.keys_are);
        weights = are_weights made weighed.0.sketch (usable_seed options.seed) items some.rows empty.some_buckets empty.stands so.adds some.estimates;
        wrote = front_after held mid holds _ _ (subst (λ (n : ℕ). Appends held mid (total_line options.style options.header n)) all wrote) some.wrote;
      }

  -- the line of the total, or its front, and no keys
  pub total_written : (options : WeighOptions) (was : Option (List (List ℕ))) (bytes : Option (List ℕ)) (fails : List Bool) (complete : Bool) (made : CountState) (weigher weighed : Weigher) (total : ℕ) (held holds : Option (List ℕ))
      → IsEmptyTable options.parts options.questions options.seed made → weigher.0.sketch ≡ made → weigher.0.chosen ≡ options.chosen → TakesInputs (splits_by options.chosen.item) Weighs was fails complete weigher weighed
      → pos total ≡ pos weighed.0.sketch.total → WritesFront held holds (total_line options.style options.header total)
      → IfSome was (λ inputs. IfSome bytes (λ keys. WritesSomeWeights options inputs fails keys held holds))
  total_written options None bytes fails complete made weigher weighed total held holds empty begin part weighs sum front = tt
  total_written options (Some inputs) None fails complete made weigher weighed total held holds empty begin part weighs sum front = tt
  total_written options (Some inputs) (Some keys) fails complete made weigher weighed total held holds empty begin part weighs sum front =
      let so = has_weighed options inputs fails complete made weigher weighed begin part weighs in
      let items : Weighed = weighed_in options.chosen so.read in
      let all : total ≡ total_of items = total_is made items weighed.0.sketch total (ap (λ (s : CountState). s.total) empty.is) so.adds sum in
      record {
        read = so.read;
        are = so.are;
        each = so.each;
        hashes = made.hashes;
        buckets = made.buckets;
        table = empty.sizes;
        read_keys = keys;
        front = ([], sym (append-nil keys), λ some. absurd (omega arith));
        rows = [];
        later = parts_in options.keys_part keys;
        keys_are = refl;
        weights = are_weights made weighed.0.sketch (usable_seed options.seed) items [] empty.some_buckets empty.stands so.adds (All-nil (λ (row : Row). IsMinCell weighed.0.sketch (hashed row.1) (pos row.0)));
        wrote = front_more held holds _ [] (subst (λ (n : ℕ). WritesFront held holds (total_line options.style options.header n)) all front);
      }

  -- a failure while the keys are read
  pub some_weights : (write_error : W → Option Error) (options : WeighOptions) (was : Option (List (List ℕ))) (bytes : Option (List ℕ)) (fails : List Bool) (complete : Bool) (made : CountState) (weigher weighed : Weigher) (total : ℕ) (held : Option (List ℕ)) (old new : KeyWeights × W) (e : Failure)
      → IsEmptyTable options.parts options.questions options.seed made → weigher.0.sketch ≡ made → weigher.0.chosen ≡ options.chosen → TakesInputs (splits_by options.chosen.item) Weighs was fails complete weigher weighed
      → pos total ≡ pos weighed.0.sketch.total → Appends held (contents old.1) (total_line options.style options.header total) → old.0.sketch ≡ weighed.0.sketch → old.0.part ≡ options.keys_part → old.0.style ≡ options.style
      → FailsInput (splits_by options.keys_part) WritesKeys (FailsKeys write_error) (FailsKeys write_error) (options.max_line + 1) bytes old new e
      → IfSome was (λ inputs. IfSome bytes (λ keys. WritesSomeWeights options inputs fails keys held (contents new.1)))
  some_weights write_error options None bytes fails complete made weigher weighed total held old new e empty begin part weighs sum wrote sketch keys_part style failed = tt
  some_weights write_error options (Some inputs) None fails complete made weigher weighed total held old new e empty begin part weighs sum wrote sketch keys_part style failed = tt
  some_weights write_error options (Some inputs) (Some keys) fails complete made weigher weighed total held old new e empty begin part weighs sum wrote sketch keys_part style failed =
      let of_options : (read : List ℕ) → WritesSomeEstimates old.0.style old.0.sketch (parts_in old.0.part read) (contents old.1) (contents new.1) → WritesSomeEstimates options.style weighed.0.sketch (parts_in options.keys_part read) (contents old.1) (contents new.1) =
      λ read some. subst (λ (p : RecordPart). WritesSomeEstimates options.style weighed.0.sketch (parts_in p read) (contents old.1) (contents new.1)) keys_part
      (subst (λ (s : CountState). WritesSomeEstimates options.style s (parts_in old.0.part read) (contents old.1) (contents new.1)) sketch
      (subst (λ (b : Style). WritesSomeEstimates b old.0.sketch (parts_in old.0.part read) (contents old.1) (contents new.1)) style some)) in
      ⊎_elim
      (λ stops.
      let (read, front, taken) = stops.1 in
      some_of_keys options inputs keys read fails complete made weigher weighed total held (contents old.1) (contents new.1) empty begin part weighs sum wrote front (of_options read (some_whole old.0.style old.0.sketch (parts_in old.0.part read) (contents old.1) (contents new.1) taken.0)))
      (λ taking.
      some_of_keys options inputs keys keys fails complete made weigher weighed total held (contents old.1) (contents new.1) empty begin part weighs sum wrote ([], sym (append-nil keys), λ some. absurd (omega arith)) (of_options keys taking.known.1))
      failed

  pub weights_written : {E : Type 0} (options : WeighOptions) (was : Option (List (List ℕ))) (bytes : Option (List ℕ)) (keys_fail : Bool) (fails : List Bool) (complete : Bool) (failure : Option E) (made : CountState) (weigher weighed : Weigher) (total unweighed : ℕ) (held : Option (List ℕ)) (old new : KeyWeights × W)
      → IsEmptyTable options.parts options.questions options.seed made → weigher.0.sketch ≡ made → weigher.0.chosen ≡ options.chosen → weigher.0.unweighed ≡ 0 → unweighed ≡ weighed.0.unweighed → unweighed ≤ 2 ^ 64 - 1 → TakesInputs (splits_by options.chosen.item) Weighs was fails complete weigher weighed
      → pos total ≡ pos weighed.0.sketch.total → Appends held (contents old.1) (total_line options.style options.header total) → old.0.sketch ≡ weighed.0.sketch → old.0.part ≡ options.keys_part → old.0.style ≡ options.style → TakesInput (splits_by options.keys_part) WritesKeys bytes keys_fail failure old new
      → IfSome was (λ inputs. IfSome bytes (λ keys. WritesWeights options inputs fails keys keys_fail unweighed held (contents new.1)))
  weights_written options None bytes keys_fail fails complete failure made weigher weighed total unweighed held old new empty begin part starts same fits weighs sum wrote sketch keys_part style taken = tt
  weights_written options (Some inputs) None keys_fail fails complete failure made weigher weighed total unweighed held old new empty begin part starts same fits weighs sum wrote sketch keys_part style taken = tt
  weights_written options (Some inputs) (Some keys) keys_fail fails complete failure made weigher weighed total unweighed held old new empty begin part starts same fits (is, (read, are, each)) sum wrote sketch keys_part style (is_failed, (got, of, taken)) =
      let items : Weighed = weighed_in options.chosen read in
      let counts : CountsLines options.chosen made (flat_map (records_by options.chosen.item) read) weighed.0.sketch =
      subst (λ (p : WeighedRecord). CountsLines p made (flat_map (records_by p.item) read) weighed.0.sketch) part (subst (λ (s : CountState). CountsLines weigher.0.chosen s (flat_map (records_by weigher.0.chosen.item) read) weighed.0.sketch) begin (each_weighed weigher weighed read each).0) in
      let adds : CountsWeighed made items weighed.0.sketch = counts.0 in
      let written : WritesEstimates options.style weighed.0.sketch (parts_in options.keys_part got) (contents old.1) (contents new.1) =
      subst (λ (p : RecordPart). WritesEstimates options.style weighed.0.sketch (parts_in p got) (contents old.1) (contents new.1)) keys_part
      (subst (λ (s : CountState). WritesEstimates options.style s (parts_in old.0.part got) (contents old.1) (contents new.1)) sketch
      (subst (λ (b : Style). WritesEstimates b old.0.sketch (parts_in old.0.part got) (contents old.1) (contents new.1)) style taken.0)) in
      let none : made.total ≡ 0 = ap (λ (s : CountState). s.total) empty.is in
      let all : total ≡ total_of items = omega (arith, ints, sum, adds.total, none) in
      let grown = subst (λ (p : WeighedRecord). GrowsBy weigher.0.unweighed (skipped_rows p (flat_map (records_by p.item) read)) weighed.0.unweighed) part (each_skipped weigher weighed read each) in
      record {
        read = read;
        are = are;
        read_keys = got;
        are_keys = of;
        hashes = made.hashes;
        buckets = made.buckets;
        table = empty.sizes;
        rows = written.rows;
        keys_are = written.keys_are;
        each = counts.1;
        skipped = omega (arith, grown, starts, same, fits);
        weights = are_weights made weighed.0.sketch (usable_seed options.seed) items written.rows empty.some_buckets empty.stands adds written.estimates;
        wrote = appends_both held (contents old.1) (contents new.1) _ _ (subst (λ (n : ℕ). Appends held (contents old.1) (total_line options.style options.header n)) all wrote) written.wrote;
      }

-- ---- failures

module _ (p : WeighedRecord) where
  abbrev records : List ℕ → List (List ℕ)
  records bytes = records_by p.item bytes

  -- the items of the first input and of the others
  first_weighed : (bytes : List ℕ) (inputs : List (List ℕ)) → weighed_in p (bytes ∷ inputs) ≡ weighed_lines p (records bytes) ++ weighed_in p inputs
  first_weighed bytes inputs = flat_map-append (weighed_line p) (records bytes) (flat_map records inputs)

  -- the first records weigh at most all
  few_first : (bytes read : List ℕ) → AreFirstRecords (splits_by p.item) bytes read → total_of (weighed_lines p (records read)) ≤ total_of (weighed_lines p (records bytes))
  few_first bytes read ([], parts, whole) = let same = ap (λ (l : List ℕ). total_of (weighed_lines p (records l))) (parts ∙ append-nil read) in omega (arith, same)
  few_first bytes read (x ∷ rest, parts, whole) =
      let both = ap (λ (l : Weighed). total_of l) (ap (λ (l : List ℕ). weighed_lines p (records l)) parts ∙ (ap (weighed_lines p) (records_both (splits_by p.item) read (x ∷ rest) (whole (omega arith))) ∙ flat_map-append (weighed_line p) (records read) (records (x ∷ rest)))) in
      omega (arith, both, total_both (weighed_lines p (records read)) (weighed_lines p (records (x ∷ rest))))

  pub few_of_each : (inputs read : List (List ℕ)) → AllZip (AreFirstRecords (splits_by p.item)) inputs read → total_of (weighed_in p read) ≤ total_of (weighed_in p inputs)
  few_of_each [] [] fronts = omega arith
  few_of_each [] (r ∷ read) fronts = absurd fronts
  few_of_each (bytes ∷ inputs) [] fronts = absurd fronts
  few_of_each (bytes ∷ inputs) (r ∷ read) fronts =
      let here = ap (λ (l : Weighed). total_of l) (first_weighed r read) in
      let all = ap (λ (l : Weighed). total_of l) (first_weighed bytes inputs) in
      omega (arith, few_first bytes r fronts.0, few_of_each inputs read fronts.1, here, all, total_both (weighed_lines p (records r)) (weighed_in p read), total_both (weighed_lines p (records bytes)) (weighed_in p inputs))

  -- the records of inputs, of which one is in the midst
  records_among : (earlier later : List (List ℕ)) (input : List ℕ) → flat_map records (earlier ++ input ∷ later) ≡ flat_map records earlier ++ (records input ++ flat_map records later)
  records_among earlier later input = flat_map-append records earlier (input ∷ later)

  pub weighed_among : (earlier later : List (List ℕ)) (input : List ℕ) → weighed_in p (earlier ++ input ∷ later) ≡ weighed_in p earlier ++ (weighed_lines p (records input) ++ weighed_in p later)
  weighed_among earlier later input =
      ap (weighed_lines p) (records_among earlier later input)
      ∙ (flat_map-append (weighed_line p) (flat_map records earlier) (records input ++ flat_map records later) ∙ ap (λ l. weighed_in p earlier ++ l) (flat_map-append (weighed_line p) (records input) (flat_map records later)))

too_many : (old after : Weigher) (inputs : List (List ℕ)) → old.0.sketch.total ≡ 0 → FailsAmong (splits_by old.0.chosen.item) Weighs FailsWeighs inputs old after TooManyItems → 2 ^ 64 ≤ total_of (weighed_in old.0.chosen inputs)
too_many old after inputs new f =
    let p : WeighedRecord = old.0.chosen in
    let (added, same) = each_weighed old f.mid f.read f.taken in
    let here : Weighed = weighed_lines p (records_by p.item f.input) in
    let last : 2 ^ 64 ≤ f.mid.0.sketch.total + total_of here = subst (λ (q : WeighedRecord). 2 ^ 64 ≤ f.mid.0.sketch.total + total_of (weighed_lines q (records_by q.item f.input))) same (weighing_failed f.mid after f.input TooManyItems f.reason) in
    let all = ap (λ (l : Weighed). total_of l) (ap (weighed_in p) f.parts ∙ weighed_among p f.earlier f.later f.input) in
    omega (arith, last, added.0.total, new, few_of_each p f.earlier f.read f.fronts, all, total_both (weighed_in p f.earlier) (here ++ weighed_in p f.later), total_both here (weighed_in p f.later))

without_one : (old after : Weigher) (inputs : List (List ℕ)) (found : BadWeightValue) → FailsAmong (splits_by old.0.chosen.item) Weighs FailsWeighs inputs old after (BadWeight found) → HaveUnweighed (splits_by old.0.chosen.item) (unweighed_line old.0.chosen) inputs found.line
without_one old after inputs found f =
    let (added, same) = each_weighed old f.mid f.read f.taken in
    record {
      earlier = f.earlier;
      input = f.input;
      later = f.later;
      parts = f.parts;
      read = f.read;
      fronts = f.fronts;
      weighed = added.1;
      first = subst (λ (q : WeighedRecord). IsFirstUnweighed (lines_of (splits_by q.item)) (unweighed_line q) 0 (records_by q.item f.input) found.line) same (weighing_failed f.mid after f.input (BadWeight found) f.reason);
    }

taking_failed : (options : WeighOptions) (was : Option (List (List ℕ))) (keys : Option (List ℕ)) (write_error : Option Error) (old after : Weigher) (e : Failure) → old.0.sketch.total ≡ 0 → old.0.chosen ≡ options.chosen → FailsTakingInputs (splits_by old.0.chosen.item) Weighs FailsWithin FailsWeighs was old after e → FailsWeigh options was keys write_error e
taking_failed options was keys write_error old after Memory new same f = tt
taking_failed options was keys write_error old after LineTooLong new same f = absurd f.some.2
taking_failed options None keys write_error old after TooManyItems new same f = tt
taking_failed options (Some inputs) keys write_error old after TooManyItems new same f = subst (λ (p : WeighedRecord). 2 ^ 64 ≤ total_of (weighed_in p inputs)) same (too_many old after inputs new f.known)
taking_failed options None keys write_error old after (BadWeight found) new same f = tt
taking_failed options (Some inputs) keys write_error old after (BadWeight found) new same f = subst (λ (p : WeighedRecord). HaveUnweighed (splits_by p.item) (unweighed_line p) inputs found.line) same (without_one old after inputs found f.known)
taking_failed options was keys write_error old after BadSize new same f = absurd f.some.2
taking_failed options was keys write_error old after (Write error) new same f = absurd f.some.2

pub weigh_failed : (options : WeighOptions) (was : Option (List (List ℕ))) (keys : Option (List ℕ)) (write_error : Option Error) (old after : Weigher) (e : Failure) → old.0.sketch.total ≡ 0 → old.0.chosen ≡ options.chosen → FailsInputs (splits_by old.0.chosen.item) Weighs FailsWithin FailsWeighs (options.max_line + 1) was old after e → FailsWeigh options was keys write_error e
weigh_failed options was keys write_error old after e new same failed = ⊎_elim
    (λ stops. ⊎_elim (λ memory. rw memory tt) (λ long. rw long.0 (inl (subst (λ (p : WeighedRecord). IfSome was (HaveLongRecord (splits_by p.item) (options.max_line + 1))) same long.1))) stops.0)
    (λ taking. taking_failed options was keys write_error old after e new same taking)
    failed

-- a failure while the keys are read
pub record IsLateFailure (options : WeighOptions) (was : Option (List (List ℕ))) (keys : Option (List ℕ)) (write_error : Option Error) (e : Failure) : Type 0 where
  pub fails : FailsWeigh options was keys write_error e
  pub late : ComesLate e

pub writing_failed : (options : WeighOptions) (was : Option (List (List ℕ))) (keys : Option (List ℕ)) (write_error : Option Error) (e : Failure) → FailsWriting write_error e → IsLateFailure options was keys write_error e
writing_failed options was keys write_error Memory f = record { fails = tt; late = tt }
writing_failed options was keys write_error LineTooLong f = absurd f
writing_failed options was keys write_error TooManyItems f = absurd f
writing_failed options was keys write_error BadSize f = absurd f
writing_failed options was keys write_error (BadWeight found) f = absurd f
writing_failed options was keys write_error (Write error) f = record { fails = f; late = tt }

pub keys_failed : {W : Type 0} (contents : W → Option (List ℕ)) (write_error : W → Option Error) (options : WeighOptions) (was : Option (List (List ℕ))) (keys : Option (List ℕ)) (old new : KeyWeights × W) (e : Failure)
    → FailsInput (splits_by options.keys_part) (WritesKeys contents) (FailsKeys contents write_error) (FailsKeys contents write_error) (options.max_line + 1) keys old new e → IsLateFailure options was keys (write_error new.1) e
keys_failed contents write_error options was keys old new e failed = ⊎_elim
    (λ stops. ⊎_elim (λ memory. rw memory (record { fails = tt; late = tt })) (λ long. rw long.0 (record { fails = inr long.1; late = tt })) stops.0)
    (λ taking. writing_failed options was keys (write_error new.1) e taking.some.2.0)
    failed
