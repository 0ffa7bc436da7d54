-- Saved sketches and what they stand for.
use Rattle.std.proofs.Common.{◌≡◌, ℕ, ℤ, ◌≤◌, Bool, List, Option, Some, None, inl, inr, refl, sym, ap, subst, ◌∙◌, arith}
use Rattle.std.specs.Prelude.{cond, ◌*◌}
use Rattle.std.proofs.lemmas.Bool.{le-ltb}
use denote.RattleType.{RattleType}
use Rattle.counter_table.specs.Bytes.{table_bytes}
use Rattle.sketch_base.specs.Checks.{IsImageRefusal, or_else}
use Rattle.sketch_base.specs.Errors.{ErrorValue, no_memory}
use Rattle.sketch_base.specs.declared.fault.Fault.{Fault}
use Rattle.sketch_base.specs.declared.fault.Fault.TheVariants.{TableTooLarge}
use Rattle.sketch_bloom.specs.Building.{Request, words_for}
use Rattle.sketch_bloom.specs.Image as bloom
use Rattle.sketch_bloom.specs.Laws as bloom_laws
use Rattle.sketch_bloom.specs.State.{FilterState, IsFilterState}
use Rattle.sketch_countmin.specs.Image as count
use Rattle.sketch_countmin.specs.Laws as count_laws
use Rattle.sketch_countmin.specs.State.{CountState, IsCountState}
use Rattle.sketch_countmin.specs.History as count_history
use Rattle.sketch_frequencies.specs.Image as frequent
use Rattle.sketch_frequencies.specs.Items.{Codec, max_owned}
use Rattle.sketch_frequencies.specs.Laws as frequent_laws
use Rattle.sketch_frequencies.specs.Memory.{memory_bytes}
use Rattle.sketch_frequencies.specs.declared.frequent_items_sizes.FrequentItemsSizes.{FrequentItemsSizes}
use Rattle.sketch_frequencies.specs.State.{FrequentState, IsState, capacity, max_sample_size}
use Rattle.datasketches.specs.Actions.{Shape, Shape as shape}
use Rattle.datasketches.specs.Histories.{History, restored_shape}
use Rattle.datasketches.specs.Histories.History.{OfFrequent, OfCountI64, OfCountU64, OfBloom, OfStranger}
use Rattle.datasketches.specs.Images.{IsImageOf, IsImageOfShape, IsCountImage, IsWrittenBy, IsReadFrom, IsReadRefusal, IsLoadRefusal, GivesBack, over_limit, load_fault}
use Rattle.datasketches.specs.Replies.{min_signed, max_signed, min_unsigned, max_unsigned}
use Rattle.datasketches.specs.Stands.{StandsFor, KeepsCounts, HasShape}
use Rattle.datasketches.specs.declared.image_kind.ImageKind.{ImageKind}
use Rattle.datasketches.specs.declared.image_kind.ImageKind.TheVariants as kind
use Rattle.datasketches.specs.declared.sketch.Sketch.{Sketch}
use Rattle.datasketches.specs.declared.sketch.Sketch.TheVariants.{Frequent, CountI64, CountU64, Bloom}

-- a Count-Min sketch that was read under the saved sketch's seed gives back what was saved
count_back : (least : ℤ) (greatest seed : ℕ) (bytes : List ℕ) (new : CountState) (h : count_history.CountHistory) → count_laws.SpelledIsImage least greatest → IsCountState greatest new → count.Restores least greatest seed bytes new → IsCountImage least greatest seed bytes h → KeepsCounts greatest new (count_history.Restored h)
count_back least greatest seed bytes new h spelled state restores i = record {
  state = state;
  stands = restores i.sketch (subst (λ (s : ℕ). count.IsImage least greatest s bytes i.sketch) (sym i.seed_is) (spelled bytes i.sketch i.spelled)) h i.stands;
}

-- the numbers of a shape
abbrev max_size_in : Shape → ℕ
max_size_in (shape.Frequent sizes) = sizes.max_map_size
max_size_in _ = 0

abbrev request_in : Shape → Request
request_in (shape.Bloom request) = request
request_in _ = record { num_bits = 0; num_hashes = 0; seed = 0 }

words_of_bits : (n : ℕ) → words_for (64 * n) ≡ n
words_of_bits n = omega arith

-- a smaller table holds fewer counters
few_within : (n size most : ℕ) → n ≤ capacity size → size ≤ most → n ≤ capacity most
few_within n size most few within = omega (arith, few, within)

-- an image that was read passed the checks before memory
or_else_none : (early late : Option Fault) → or_else early late ≡ None → early ≡ None
or_else_none None late e = refl
or_else_none (Some fault) late e = cc

module _ {T C : Type 0} (eq : T → T → Bool) (codec : Codec C) (content : T → C) where
  -- a sketch that was read from an untrusted image has the shape of what was saved, or the shape that the image states
  frequent_shape : (bytes : List ℕ) (new : FrequentState T) (sizes : FrequentItemsSizes) → frequent_laws.SpelledIsImage codec → IsReadFrom codec content kind.Frequent bytes (Frequent new) →
      IsImageOfShape codec content kind.Frequent bytes (shape.Frequent sizes) → HasShape (Frequent new) (restored_shape (shape.Frequent sizes))
  frequent_shape bytes new sizes spelled read (inl (s, written, has)) =
      let e = read.0.max_size ∙ sym (spelled bytes _ written).max_size ∙ has.0 in
      (e, read.1 ∙ ap max_sample_size e)
  frequent_shape bytes new sizes spelled read (inr stated) =
      let e = read.0.max_size ∙ sym (ap max_size_in stated) in
      (e, read.1 ∙ ap max_sample_size e)

  filter_shape : (bytes : List ℕ) (new : FilterState) (request : Request) → bloom_laws.SpelledIsImage → bloom.IsImage bytes new →
      IsImageOfShape codec content kind.Bloom bytes (shape.Bloom request) → HasShape {T = T} (Bloom new) (restored_shape (shape.Bloom request))
  filter_shape bytes new request spelled read (inl (s, written, has)) = rw (read.value ∙ sym (spelled bytes s written).value) has
  filter_shape bytes new request spelled read (inr stated) =
      let e = ap request_in stated in
      let words = ap (λ (r : Request). words_for r.num_bits) e in (
        ap (λ (s : FilterState). s.num_words) read.value ∙ sym (words ∙ words_of_bits (bloom.num_words_at bytes)),
        ap (λ (s : FilterState). s.num_hashes) read.value ∙ sym (ap (λ (r : Request). r.num_hashes) e),
        ap (λ (s : FilterState). s.seed) read.value ∙ sym (ap (λ (r : Request). r.seed) e),
      )

  -- a filter that was read from the bytes that were saved gives back what was saved
  pub filter_back : (bytes : List ℕ) {filter : FilterState} → bloom_laws.SpelledIsImage → bloom.IsImage bytes filter → IsFilterState filter → bloom.Restores bytes filter → GivesBack eq codec content kind.Bloom bytes (Bloom filter)
  filter_back bytes spelled read state restores (OfBloom h) i = record { state = state; stands = restores i.filter (spelled _ i.filter i.spelled) h i.stands }
  filter_back bytes {filter = filter} spelled read state restores (OfStranger (shape.Bloom request)) i = (state, filter_shape bytes filter request spelled read i)
  filter_back bytes spelled read state restores _ i = absurd i

  -- so does a sketch of frequent items
  pub frequent_back : (bytes : List ℕ) {new : FrequentState T} → frequent_laws.SpelledIsImage codec → IsReadFrom codec content kind.Frequent bytes (Frequent new) → IsState eq new → frequent.Restores codec content eq bytes new → frequent.RestoresBudget codec content eq bytes new → GivesBack eq codec content kind.Frequent bytes (Frequent new)
  frequent_back bytes {new = new} spelled read state restores budgets (OfFrequent h) i =
      let was = spelled _ _ i.spelled in
      let stands = restores i.sketch was h i.encloses in
      record {
        state = state;
        few = few_within _ _ _ state.few (subst (λ (n : ℕ). new.size ≤ n) stands.encloses.max_size state.within);
        stands = stands;
        budget = budgets i.sketch was h i.encloses i.budget;
      }
  frequent_back bytes {new = new} spelled read state restores budgets (OfStranger (shape.Frequent sizes)) i = (state, frequent_shape bytes new sizes spelled read i)
  frequent_back bytes spelled read state restores budgets _ i = absurd i

  -- so does a Count-Min sketch
  pub signed_back : count_laws.SpelledIsImage min_signed max_signed → (seed : ℕ) (bytes : List ℕ) (new : CountState) → IsCountState max_signed new → count.Restores min_signed max_signed seed bytes new → GivesBack eq codec content (kind.CountI64 seed) bytes (CountI64 new)
  signed_back spelled seed bytes new state restores (OfCountI64 h) i = count_back min_signed max_signed seed bytes new h spelled state restores i
  signed_back spelled seed bytes new state restores (OfStranger (shape.CountI64 sizes)) i = (state, tt)
  signed_back spelled seed bytes new state restores _ i = absurd i

  -- so does a Count-Min sketch
  pub unsigned_back : count_laws.SpelledIsImage min_unsigned max_unsigned → (seed : ℕ) (bytes : List ℕ) (new : CountState) → IsCountState max_unsigned new → count.Restores min_unsigned max_unsigned seed bytes new → GivesBack eq codec content (kind.CountU64 seed) bytes (CountU64 new)
  unsigned_back spelled seed bytes new state restores (OfCountU64 h) i = count_back min_unsigned max_unsigned seed bytes new h spelled state restores i
  unsigned_back spelled seed bytes new state restores (OfStranger (shape.CountU64 sizes)) i = (state, tt)
  unsigned_back spelled seed bytes new state restores _ i = absurd i

  -- what was written for a sketch stands for what the sketch stands for
  pub saved_stands : (sketch : Sketch T) (kind : ImageKind) (bytes : List ℕ) (h : History T) → IsWrittenBy codec content sketch kind bytes → StandsFor eq sketch h → IsImageOf eq codec content kind bytes h
  saved_stands (Frequent s) kind.Frequent bytes (OfFrequent h) written stands = record { sketch = s; spelled = written; encloses = stands.stands.encloses; budget = stands.budget }
  saved_stands (Frequent s) kind.Frequent bytes (OfStranger (shape.Frequent sizes)) written stands = inl (s, written, stands.1)
  saved_stands (Frequent s) kind.Frequent bytes (OfStranger _) written stands = absurd stands.1
  saved_stands (Frequent s) kind.Frequent bytes _ written stands = absurd stands
  saved_stands (CountI64 s) (kind.CountI64 seed) bytes (OfCountI64 h) written stands = record { sketch = s; seed_is = written.0; spelled = written.1; stands = stands.stands }
  saved_stands (CountI64 s) (kind.CountI64 seed) bytes (OfStranger (shape.CountI64 sizes)) written stands = tt
  saved_stands (CountI64 s) (kind.CountI64 seed) bytes (OfStranger _) written stands = absurd stands.1
  saved_stands (CountI64 s) (kind.CountI64 seed) bytes _ written stands = absurd stands
  saved_stands (CountU64 s) (kind.CountU64 seed) bytes (OfCountU64 h) written stands = record { sketch = s; seed_is = written.0; spelled = written.1; stands = stands.stands }
  saved_stands (CountU64 s) (kind.CountU64 seed) bytes (OfStranger (shape.CountU64 sizes)) written stands = tt
  saved_stands (CountU64 s) (kind.CountU64 seed) bytes (OfStranger _) written stands = absurd stands.1
  saved_stands (CountU64 s) (kind.CountU64 seed) bytes _ written stands = absurd stands
  saved_stands (Bloom s) kind.Bloom bytes (OfBloom h) written stands = record { filter = s; spelled = written; stands = stands.stands }
  saved_stands (Bloom s) kind.Bloom bytes (OfStranger (shape.Bloom request)) written stands = inl (s, written, stands.1)
  saved_stands (Bloom s) kind.Bloom bytes (OfStranger _) written stands = absurd stands.1
  saved_stands (Bloom s) kind.Bloom bytes _ written stands = absurd stands
  saved_stands _ _ _ _ written stands = absurd written

module _ {T C : Type 0} (codec : Codec C) (content : T → C) where
  -- where an image was read, memory may be refused
  pub read_first : (kind : ImageKind) (bytes : List ℕ) (sketch : Sketch T) → IsReadFrom codec content kind bytes sketch → IsReadRefusal codec kind bytes no_memory
  read_first kind.Frequent bytes (Frequent s) read = inl (refl, or_else_none (frequent.early_fault bytes) _ read.0.no_fault)
  read_first (kind.CountI64 seed) bytes (CountI64 s) read = inl (refl, or_else_none (count.early_fault seed bytes) _ read.no_fault)
  read_first (kind.CountU64 seed) bytes (CountU64 s) read = inl (refl, or_else_none (count.early_fault seed bytes) _ read.no_fault)
  read_first kind.Bloom bytes (Bloom s) read = inl (refl, or_else_none (bloom.early_fault bytes) _ read.no_fault)
  read_first _ _ _ read = absurd read

-- ---- within a limit

-- a limit that is not passed
not_over : (most n : ℕ) → n ≤ most → over_limit most n ≡ None
not_over most n h = ap (λ (t : Bool). cond t (Some TableTooLarge) None) (le-ltb most n h)

none_within : (early limit late : Option Fault) → or_else early late ≡ None → limit ≡ None → or_else early limit ≡ None
none_within None limit late e h = h
none_within (Some fault) limit late e h = cc

-- a filter that is within the limit was read from an image that is
pub bloom_accepted : (most : ℕ) (bytes : List ℕ) (s : FilterState) → bloom.IsImage bytes s → 8 * s.num_words ≤ most → bloom.limit_fault most bytes ≡ None
bloom_accepted most bytes s image within = not_over most _ (subst (λ (n : ℕ). 8 * n ≤ most) (ap (λ (u : FilterState). u.num_words) image.value) within)

module _ {T C : Type 0} (slot : ℕ) (codec : Codec C) (content : T → C) where
  -- where an image was loaded, memory may be refused
  pub load_first : (most : ℕ) (kind : ImageKind) (bytes : List ℕ) (sketch : Sketch T) → IsReadFrom codec content kind bytes sketch → load_fault slot codec most kind bytes ≡ None → IsLoadRefusal slot codec most kind bytes no_memory
  load_first most kind.Frequent bytes (Frequent s) read accepted = inl (refl, none_within (frequent.early_fault bytes) _ _ read.0.no_fault accepted)
  load_first most (kind.CountI64 seed) bytes (CountI64 s) read accepted = inl (refl, none_within (count.early_fault seed bytes) _ _ read.no_fault accepted)
  load_first most (kind.CountU64 seed) bytes (CountU64 s) read accepted = inl (refl, none_within (count.early_fault seed bytes) _ _ read.no_fault accepted)
  load_first most kind.Bloom bytes (Bloom s) read accepted = inl (refl, none_within (bloom.early_fault bytes) _ _ read.no_fault accepted)
  load_first most _ _ _ read accepted = absurd read

or_else-none : (a : Option Fault) → or_else a None ≡ a
or_else-none None = refl
or_else-none (Some fault) = refl

-- the greatest limit refuses nothing
pub no_limit : {C : Type 0} (item : RattleType) (codec : Codec C) (image : List ℕ) (late : Option Fault) (e : ErrorValue)
    → IsImageRefusal (frequent.early_fault_within item 18446744073709551615 codec image) (or_else (frequent.early_fault_within item 18446744073709551615 codec image) late) e
    → IsImageRefusal (frequent.early_fault image) (or_else (frequent.early_fault image) late) e
no_limit item codec image late e refused =
    let within : over_limit 18446744073709551615 (memory_bytes (table_bytes item (frequent.restored_size image)) (max_owned codec (frequent.bytes_of_items codec image))) ≡ None = not_over _ _ (omega arith) in
    subst (λ (early : Option Fault). IsImageRefusal early (or_else early late) e) (ap (or_else (frequent.early_fault image)) within ∙ or_else-none (frequent.early_fault image)) refused
