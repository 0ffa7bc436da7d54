-- What was read is a state, the image is one of it, and it stands for what was saved.
use Rattle.std.proofs.Common.{◌≡◌, ℕ, ◌+◌, ◌<◌, ◌≤◌, Bool, true, false, cond, List, [], ◌∷◌, length, sum, None, Some, unwrap_or, refl, sym, ap, ◌∙◌, arith}
use Rattle.std.specs.Prelude.{IsTrue, ◌^◌}
use Rattle.std.specs.Cmp.{IsEquivalence}
use Rattle.std.specs.Int.{is_power_of_two}
use Rattle.std.specs.List.{All, AllByRecursion, IsDistinct}
use Rattle.std.specs.Map.{keys_of, lookup}
use Rattle.std.proofs.lemmas.List.{length-map}
use Rattle.std.proofs.lemmas.List.Elements.{All-nil, All-cons, All-head, All-tail, All-map}
use Rattle.std.proofs.lemmas.List.Sums.{sum_by-cons}
use Rattle.sketch_base.specs.Checks.{first_failing}
use Rattle.sketch_frequencies.specs.Image.{IsImage, IsImageOf, Restores, RestoresBudget, contents_of, state_of_contents, says_empty, header_checks, count_checks, weight_checks, max_size_at, size_at, total_at, error_at, weights_at}
use Rattle.sketch_frequencies.specs.Items.{Codec}
use Rattle.sketch_frequencies.specs.Reading.{AreCounters}
use Rattle.sketch_frequencies.specs.State.{FrequentState, IsState, IsSampleSize, capacity, max_sample_size, empty_state}
use Rattle.sketch_frequencies.specs.Steps.{HoldsSame}
use Rattle.counter_table.specs.Tables.{count_of, sum_of}
use Rattle.counter_table.specs.declared.table_key.TableKey.{TableKey}
use Rattle.sketch_frequencies.proofs.SameStates.{encloses_alike, budget_alike}
use Rattle.sketch_frequencies.proofs.Cases.{by_test}
use Rattle.sketch_frequencies.proofs.ImageCounting.{distinct_contents}
use Rattle.sketch_frequencies.proofs.SameMapsByCounts.{same_map}

sum_of-contents : {T C : Type 0} (content : T → C) (es : List (T × ℕ)) → sum_of (contents_of content es) ≡ sum_of es
sum_of-contents content [] = refl
sum_of-contents {T} {C} content (e ∷ es) =
    sum_by-cons (λ (p : C × ℕ). p.1) (content e.0, e.1) (contents_of content es) ∙ ap (λ (n : ℕ). e.1 + n) (sum_of-contents content es) ∙ sym (sum_by-cons (λ (p : T × ℕ). p.1) e es)

positive_from_contents : {T C : Type 0} (content : T → C) (es : List (T × ℕ)) → All (λ e. 0 < e.1) (contents_of content es) → All (λ e. 0 < e.1) es
positive_from_contents {T} content [] h = All-nil (λ (e : T × ℕ). 0 < e.1)
positive_from_contents {T} {C} content (e ∷ es) h =
    let Q : C × ℕ → Type 0 = λ p. 0 < p.1 in
    All-cons (λ (p : T × ℕ). 0 < p.1) e es (All-head Q (content e.0, e.1) (contents_of content es) h) (positive_from_contents content es (All-tail Q (content e.0, e.1) (contents_of content es) h))

-- a state stays one where its counters are replaced by as many of other items, of the same weight together
with_counters : {A B : Type 0} (eq : A → A → Bool) (other : B → B → Bool) (s : FrequentState A) (counters : List (B × ℕ)) → IsState eq s → IsDistinct other (keys_of counters) → All (λ e. 0 < e.1) counters → length counters ≡ length s.counters → sum_of counters ≡ sum_of s.counters →
    IsState other (record { counters = counters; error = s.error; total = s.total; max_size = s.max_size; size = s.size; sample_size = s.sample_size; key = s.key; purges = s.purges })
with_counters eq other s counters h distinct positive long weight = record {
  distinct = distinct;
  positive = positive;
  few = omega (arith, h.few, long);
  sum = omega (arith, h.sum, weight);
  least = h.least;
  within = h.within;
  greatest = h.greatest;
  size_power = h.size_power;
  max_size_power = h.max_size_power;
  empty = h.empty;
  sample = h.sample;
}

-- no bytes are an image of two states of contents
pub image_is_of_one : {C : Type 0} (codec : Codec C) → IsEquivalence codec.same → (image : List ℕ) (s t : FrequentState C) → IsImage codec image s → IsImage codec image t → HoldsSame codec.same s t
image_is_of_one codec laws image s t a b = record {
  counters = same_map laws s.counters t.counters a.state.distinct b.state.distinct a.state.positive b.state.positive (λ x. a.counters x ∙ sym (b.counters x));
  error = b.error ∙ sym a.error;
  total = b.total ∙ sym a.total;
  max_size = b.max_size ∙ sym a.max_size;
  size = b.size ∙ sym a.size;
}

module _ {T C : Type 0} (codec : Codec C) (content : T → C) (eq : T → T → Bool) (alike : (x y : T) → eq x y ≡ codec.same (content x) (content y)) where
  -- a sketch and its contents are states together
  pub contents_state : (s : FrequentState T) → IsState eq s → IsState codec.same (state_of_contents content s)
  contents_state s h =
      let f : T × ℕ → C × ℕ = λ e. (content e.0, e.1) in
      with_counters eq codec.same s (contents_of content s.counters) h (distinct_contents codec.same content eq alike s.counters h.distinct) (All-map (λ (e : C × ℕ). 0 < e.1) f s.counters h.positive) (length-map s.counters f) (sum_of-contents content s.counters)

  none_equal_back : (k : T) (es : List (T × ℕ)) → AllByRecursion (λ q. codec.same (content k) q ≡ false) (keys_of (contents_of content es)) → AllByRecursion (λ q. eq k q ≡ false) (keys_of es)
  none_equal_back k [] h = tt
  none_equal_back k (e ∷ es) h = (alike k e.0 ∙ h.0, none_equal_back k es h.1)

  distinct_back : (es : List (T × ℕ)) → IsDistinct codec.same (keys_of (contents_of content es)) → IsDistinct eq (keys_of es)
  unfolding IsDistinct
  distinct_back [] h = tt
  distinct_back (e ∷ es) h = (none_equal_back e.0 es h.0, distinct_back es h.1)

  state_from_contents : (s : FrequentState T) → IsState codec.same (state_of_contents content s) → IsState eq s
  state_from_contents s h =
      let f : T × ℕ → C × ℕ = λ e. (content e.0, e.1) in
      with_counters codec.same eq (state_of_contents content s) s.counters h (distinct_back s.counters h.distinct) (positive_from_contents content s.counters h.positive) (sym (length-map s.counters f)) (sym (sum_of-contents content s.counters))

  count_of-contents : (es : List (T × ℕ)) (x : T) → count_of codec.same (contents_of content es) (content x) ≡ count_of eq es x
  count_of-contents [] x = refl
  count_of-contents (e ∷ es) x = rw (alike x e.0) (by_test (codec.same (content x) (content e.0)) (λ b. unwrap_or (cond b (Some e.1) (lookup (codec.same (content x)) (contents_of content es))) 0 ≡ unwrap_or (cond b (Some e.1) (lookup (eq x) es)) 0) (λ _. refl) (λ _. count_of-contents es x))

  -- no bytes are an image of two sketches
  pub one_sketch : IsEquivalence eq → (image : List ℕ) (s t : FrequentState T) → IsImageOf codec content image s → IsImageOf codec content image t → HoldsSame eq s t
  one_sketch laws image s t a b =
      let own = state_from_contents s a.state in
      let other = state_from_contents t b.state in
      record {
        counters = same_map laws s.counters t.counters own.distinct other.distinct own.positive other.positive (λ x. sym (count_of-contents s.counters x) ∙ a.counters (content x) ∙ sym (b.counters (content x)) ∙ count_of-contents t.counters x);
        error = b.error ∙ sym a.error;
        total = b.total ∙ sym a.total;
        max_size = b.max_size ∙ sym a.max_size;
        size = b.size ∙ sym a.size;
      }

  -- what comes back with the sample size of a new sketch stands for the restored history, and keeps its tail budget
  pub restores : IsEquivalence eq → (image : List ℕ) (new : FrequentState T) → IsImageOf codec content image new → new.sample_size ≡ max_sample_size new.max_size → Restores codec content eq image new
  restores laws image new is usual old was h stands =
      let s = encloses_alike laws old new (state_from_contents old was.state) (one_sketch laws image old new was is) h stands in
      record {
        encloses = record {
          max_size = s.max_size;
          total = s.total;
          at_least = s.at_least;
          at_most = s.at_most;
          exact = λ few. s.exact (record { items = few.items; fit = few.fit; cover = few.cover });
          least = s.least;
          power = s.power;
          sample = s.sample;
        };
        sample_size = usual ∙ ap (λ (n : ℕ). max_sample_size n) s.max_size;
      }

  pub restores_budget : IsEquivalence eq → (image : List ℕ) (new : FrequentState T) → IsImageOf codec content image new → RestoresBudget codec content eq image new
  restores_budget laws image new is old was h stands keeps = λ set short. budget_alike laws old new (one_sketch laws image old new was is) h keeps set short

  -- an image that says 'empty'
  pub image_of_none : (image : List ℕ) (m n : ℕ) (key : TableKey) → IsState eq (empty_state m n key) → first_failing (header_checks image) ≡ None → says_empty image ≡ true → m ≡ max_size_at image → IsImageOf codec content image (empty_state m n key)
  image_of_none image m n key state checks empty max_size = record {
    no_fault = rw (checks, empty) refl;
    state = contents_state (empty_state m n key) state;
    max_size = max_size;
    size = rw empty refl;
    total = rw empty refl;
    error = rw empty refl;
    counters = λ x. rw empty refl;
  }

  -- what was counted is a state
  pub state_of_counters : (image : List ℕ) (s : FrequentState T) → AreCounters codec content eq image s.counters → length (weights_at image) ≤ capacity s.size → sum (weights_at image) + s.error ≤ s.total → 8 ≤ s.size → s.size ≤ s.max_size → s.max_size ≤ 2 ^ 30 → IsTrue (is_power_of_two s.size) → IsTrue (is_power_of_two s.max_size) → 0 < s.total → IsSampleSize s.max_size s.sample_size → IsState eq s
  state_of_counters image s read few within least below most size_power max_size_power some sample = record {
    distinct = read.counted.distinct;
    positive = read.counted.positive;
    few = omega (arith, read.counted.few, few);
    sum = omega (arith, read.counted.sum_is, within);
    least = least;
    within = below;
    greatest = most;
    size_power = size_power;
    max_size_power = max_size_power;
    empty = λ none. absurd (omega (arith, none, some));
    sample = sample;
  }

  -- and the image is one of it
  pub image_of_counters : (image : List ℕ) (s : FrequentState T) → IsState eq s → AreCounters codec content eq image s.counters → first_failing (header_checks image) ≡ None → says_empty image ≡ false → first_failing (count_checks image) ≡ None → first_failing (weight_checks image) ≡ None
      → s.error ≡ error_at image → s.total ≡ total_at image → s.max_size ≡ max_size_at image → s.size ≡ size_at image → IsImageOf codec content image s
  image_of_counters image s state read header full counts weights error total max_size size = record {
    no_fault = rw (header, full, counts, weights, read.read) refl;
    state = contents_state s state;
    max_size = max_size;
    size = rw full size;
    total = rw full total;
    error = rw full error;
    counters = λ x. read.counted.counts x ∙ rw (full, read.read) refl;
  }
