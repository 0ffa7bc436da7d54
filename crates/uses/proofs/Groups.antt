-- What a sketch says of rows, from what it says of a history of them.
use Rattle.std.proofs.Common.{◌≡◌, ℕ, ◌+◌, ◌-◌, ◌*◌, ◌/◌, ◌<◌, ◌≤◌, max, min, Bool, true, false, cond, List, [], ◌∷◌, ◌++◌, length, IsPermutation, Result, Ok, Err, IfOk, OnOk, IsOk, refl, sym, ap, subst, ◌∙◌, arith, ⊎_elim}
use Rattle.std.proofs.Math.Nat.{eq-zero-or-pos, mul-le-mul_right}
use Rattle.std.proofs.lemmas.List.Sums.{sum_by-append, sum_by_push}
use Rattle.std.proofs.lemmas.List.Elements.{All-weaker}
use Rattle.std.proofs.lemmas.List.Sorted.{sum_by-IsPermutation}
use Rattle.std.specs.List.{list_any}
use Rattle.counter_table.specs.Tables.{sum_outside}
use Rattle.sketch_frequencies.specs.History.{weight_outside, min_sample, budget_size}
use Rattle.sketch_frequencies.specs.History.FrequentHistory.{New, Update, Merge, Restored}
use Rattle.sketch_frequencies.specs.Image.{Restores, RestoresBudget, state_of_contents}
use Rattle.sketch_frequencies.specs.Items.{Codec}
use Rattle.sketch_frequencies.specs.Laws.{SpelledIsImage}
use Rattle.sketch_frequencies.specs.RowValue.{RowValue}
use Rattle.sketch_frequencies.specs.Rows.{Shows, ShowsExactly, MissesNone}
use Rattle.sketch_frequencies.specs.Stands.{StandsFor, KeepsTailBudget, Extends, ExtendsBudget, ExtendsBoth, ExtendsBothBudgets}
use Rattle.sketch_frequencies.specs.State.{FrequentState, max_sample_size}
use Rattle.sketch_frequencies.specs.declared.error_type.ErrorType.{ErrorType}
use Rattle.sketch_frequencies.specs.declared.error_type.ErrorType.TheVariants.{NoFalseNegatives}
use Rattle.uses.specs.Groups.{weight_of, SumsUp, ReportsHeavy, CarriesSums}

-- half of the lesser of two samples
least_places : (m n a b : ℕ) → m ≤ a / 2 → n ≤ b / 2 → min m n ≤ min a b / 2
least_places m n a b p q = omega arith

-- fewer places need less
tail_of : (n m k e kept all : ℕ) → n ≤ m → kept + (m - k) * e ≤ all → (n - k) * e ≤ all
tail_of n m k e kept all le h =
    let fewer : n - k ≤ m - k = omega arith in
    omega (arith, h, mul-le-mul_right e fewer)

none : (b : Bool) (weight : ℕ) → weight ≡ 0 → cond b weight 0 ≡ 0
none true weight e = e
none false weight e = refl

none_else : (b : Bool) (weight : ℕ) → weight ≡ 0 → cond b 0 weight ≡ 0
none_else true weight e = refl
none_else false weight e = e

module _ {G : Type 0} (eq : G → G → Bool) where
  -- a new sketch sums up no rows
  pub sums_nothing : (max_map_size : ℕ) (s : FrequentState G)
      → StandsFor eq s (New max_map_size (max_sample_size max_map_size))
      → KeepsTailBudget eq s (New max_map_size (max_sample_size max_map_size))
      → SumsUp eq (max_sample_size max_map_size / 2) s []
  sums_nothing max_map_size s stands budget = record {
    history = New max_map_size (max_sample_size max_map_size);
    stands = stands;
    budget = budget;
    places = omega arith;
    total = refl;
    groups = λ group. refl;
    others = λ set. refl;
  }

  pub sums_nothing_either : {E : Type 0} (max_map_size : ℕ) (r : Result (FrequentState G) E)
      → IfOk r (λ s. StandsFor eq s (New max_map_size (max_sample_size max_map_size)))
      → IfOk r (λ s. KeepsTailBudget eq s (New max_map_size (max_sample_size max_map_size)))
      → IfOk r (λ s. SumsUp eq (max_sample_size max_map_size / 2) s [])
  sums_nothing_either max_map_size (Ok s) stands budget = sums_nothing max_map_size s stands budget
  sums_nothing_either max_map_size (Err e) stands budget = tt

  -- one row more
  pub sums_more : (old new : FrequentState G) (group : G) (weight : ℕ)
      → Extends eq old new (λ h. Update h group weight) → ExtendsBudget eq old new (λ h. Update h group weight)
      → (n : ℕ) (rows : List (G × ℕ)) → SumsUp eq n old rows → SumsUp eq n new (rows ++ (group, weight) ∷ [])
  sums_more old new group weight stands budget n rows s = record {
    history = Update s.history group weight;
    stands = stands s.history s.stands;
    budget = budget s.history s.stands s.budget;
    places = s.places;
    total = ap (λ (w : ℕ). w + weight) s.total ∙ sym (sum_by_push (λ (row : G × ℕ). row.1) rows (group, weight));
    groups = λ x.
        ap (λ (w : ℕ). w + cond (eq group x) weight 0) (s.groups x)
        ∙ sym (sum_by_push (λ (row : G × ℕ). cond (eq row.0 x) row.1 0) rows (group, weight));
    others = λ set.
        ap (λ (w : ℕ). w + cond (list_any (eq group) set) 0 weight) (s.others set)
        ∙ sym (sum_by_push (λ (row : G × ℕ). cond (list_any (eq row.0) set) 0 row.1) rows (group, weight));
  }

  -- a row of weight 0
  pub sums_same : (s : FrequentState G) (group : G) (weight : ℕ) → weight ≡ 0
      → (n : ℕ) (rows : List (G × ℕ)) → SumsUp eq n s rows → SumsUp eq n s (rows ++ (group, weight) ∷ [])
  sums_same s group weight e n rows is = record {
    history = is.history;
    stands = is.stands;
    budget = is.budget;
    places = is.places;
    total = omega (arith, e, is.total, sum_by_push (λ (row : G × ℕ). row.1) rows (group, weight));
    groups = λ x. omega (arith, is.groups x, none (eq group x) weight e, sum_by_push (λ (row : G × ℕ). cond (eq row.0 x) row.1 0) rows (group, weight));
    others = λ set. omega (arith, is.others set, none_else (list_any (eq group) set) weight e, sum_by_push (λ (row : G × ℕ). cond (list_any (eq row.0) set) 0 row.1) rows (group, weight));
  }

  -- the rows of two shards
  pub sums_both : (old other new : FrequentState G) → ExtendsBoth eq old other new Merge → ExtendsBothBudgets eq old other new Merge
      → (m n : ℕ) (rows more : List (G × ℕ)) → SumsUp eq m old rows → SumsUp eq n other more → SumsUp eq (min m n) new (rows ++ more)
  sums_both old other new stands budget m n rows more s t = record {
    history = Merge s.history t.history;
    stands = stands s.history t.history s.stands t.stands;
    budget = budget s.history t.history s.stands t.stands s.budget t.budget;
    places = least_places m n (min_sample s.history) (min_sample t.history) s.places t.places;
    total = omega (arith, s.total, t.total, sum_by-append (λ (row : G × ℕ). row.1) rows more);
    groups = λ x. omega (arith, s.groups x, t.groups x, sum_by-append (λ (row : G × ℕ). cond (eq row.0 x) row.1 0) rows more);
    others = λ set. omega (arith, s.others set, t.others set, sum_by-append (λ (row : G × ℕ). cond (list_any (eq row.0) set) 0 row.1) rows more);
  }

  -- the same rows in another order
  pub sums_any_order : (n : ℕ) (s : FrequentState G) (rows other : List (G × ℕ)) → IsPermutation rows other
      → SumsUp eq n s rows → SumsUp eq n s other
  sums_any_order n s rows other p is = record {
    history = is.history;
    stands = is.stands;
    budget = is.budget;
    places = is.places;
    total = is.total ∙ sym (sum_by-IsPermutation (λ (row : G × ℕ). row.1) rows other p);
    groups = λ x. is.groups x ∙ sym (sum_by-IsPermutation (λ (row : G × ℕ). cond (eq row.0 x) row.1 0) rows other p);
    others = λ set. is.others set ∙ sym (sum_by-IsPermutation (λ (row : G × ℕ). cond (list_any (eq row.0) set) 0 row.1) rows other p);
  }

  -- what a report says
  pub reports : (s : FrequentState G) (kind : ErrorType) (threshold : ℕ) (heavy : List (RowValue G)) → ShowsExactly eq kind threshold s heavy
      → MissesNone eq threshold s heavy → (n : ℕ) (rows : List (G × ℕ)) → SumsUp eq n s rows
      → ReportsHeavy eq n threshold s.error rows heavy
  reports s kind threshold heavy exact misses n rows is =
      let encloses = is.stands.encloses in
      record {
        none_missing = λ group above. misses is.history encloses group (subst (λ (w : ℕ). max threshold s.error < w) (sym (is.groups group)) above);
        encloses = All-weaker (Shows eq kind threshold s)
            (λ (row : RowValue G). (row.lower_bound ≤ weight_of eq rows row.item) × (weight_of eq rows row.item ≤ row.upper_bound))
            (λ row shown. (
              omega (arith, shown.lower_bound, encloses.at_least row.item, is.groups row.item),
              omega (arith, shown.upper_bound, encloses.at_most row.item, is.groups row.item),
            )) heavy exact.shown;
        tail = λ set fits.
            let few : length set ≤ budget_size is.history = omega (arith, fits, is.places) in
            subst (λ (w : ℕ). (n - length set) * s.error ≤ w) (is.others set)
            (tail_of n (budget_size is.history) (length set) s.error (sum_outside eq set s.counters) (weight_outside eq set is.history) is.places (is.budget set few));
      }

  -- ---- whatever a call answered

  pub sums_more_either : {E : Type 0} (old new : FrequentState G) (group : G) (weight : ℕ) (r : Result (Unit {0}) E)
      → (weight ≡ 0 → IsOk r × (new ≡ old))
      → OnOk r (0 < weight → Extends eq old new (λ h. Update h group weight))
      → OnOk r (0 < weight → ExtendsBudget eq old new (λ h. Update h group weight))
      → OnOk r ((n : ℕ) (rows : List (G × ℕ)) → SumsUp eq n old rows → SumsUp eq n new (rows ++ (group, weight) ∷ []))
  sums_more_either old new group weight (Ok x) same stands budget = λ n rows is.
      ⊎_elim
      (λ (e : weight ≡ 0). subst (λ (s : FrequentState G). SumsUp eq n s (rows ++ (group, weight) ∷ [])) (sym (same e).1) (sums_same old group weight e n rows is))
      (λ (some : 0 < weight). sums_more old new group weight (stands some) (budget some) n rows is)
      (eq-zero-or-pos weight)
  sums_more_either old new group weight (Err e) same stands budget = tt

  pub sums_both_either : {E : Type 0} (old other new : FrequentState G) (r : Result (Unit {0}) E)
      → OnOk r (ExtendsBoth eq old other new Merge) → OnOk r (ExtendsBothBudgets eq old other new Merge)
      → OnOk r ((m n : ℕ) (rows more : List (G × ℕ)) → SumsUp eq m old rows → SumsUp eq n other more → SumsUp eq (min m n) new (rows ++ more))
  sums_both_either old other new (Ok x) stands budget = sums_both old other new stands budget
  sums_both_either old other new (Err e) stands budget = tt

  pub reports_either : {X E : Type 0} (s : FrequentState G) (threshold : ℕ) (heavy : X → List (RowValue G)) (r : Result X E)
      → IfOk r (λ x. ShowsExactly eq NoFalseNegatives threshold s (heavy x))
      → IfOk r (λ x. NoFalseNegatives ≡ NoFalseNegatives → MissesNone eq threshold s (heavy x))
      → IfOk r (λ x. (n : ℕ) (rows : List (G × ℕ)) → SumsUp eq n s rows → ReportsHeavy eq n threshold s.error rows (heavy x))
  reports_either s threshold heavy (Ok x) exact misses = reports s NoFalseNegatives threshold (heavy x) exact (misses refl)
  reports_either s threshold heavy (Err e) exact misses = tt

  -- what an image carried
  pub restored : {C : Type 0} (codec : Codec C) (content : G → C) → SpelledIsImage codec → (image : List ℕ) (new : FrequentState G)
      → Restores codec content eq image new → RestoresBudget codec content eq image new
      → (n : ℕ) (rows : List (G × ℕ)) → CarriesSums eq codec content n image rows → SumsUp eq n new rows
  restored codec content law image new stands budget n rows c =
      let is = law image (state_of_contents content c.sums) c.spelled in
      let s = c.sums_up in
      record {
        history = Restored s.history;
        stands = stands c.sums is s.history s.stands.encloses;
        budget = budget c.sums is s.history s.stands.encloses s.budget;
        places = s.places;
        total = s.total;
        groups = s.groups;
        others = s.others;
      }
