-- The rows so far of a report, entry by entry.
use Rattle.std.proofs.Common.{◌≡◌, ℕ, ◌+◌, ◌≤◌, Bool, true, false, ◌||◌, max, List, [], ◌∷◌, ◌++◌, unwrap_or, is_some, map, refl, ap, sym, ◌∙◌, subst, arith, IsPermutation, append_assoc}
use Rattle.std.specs.Cmp.{IsEquivalence}
use Rattle.std.specs.List.{IsDistinct, list_any, All}
use Rattle.std.specs.Map.{keys_of}
use Rattle.std.proofs.lemmas.Bool.{false≢true}
use Rattle.std.proofs.lemmas.List.{map-append, append-nil}
use Rattle.std.proofs.lemmas.List.Elements.{All-nil, All-push, All-weaker, All-head, All-tail}
use Rattle.std.proofs.lemmas.List.Folds.{list_any-append}
use Rattle.std.proofs.lemmas.List.Sums.{sum_by-append, sum_by-cons}
use Rattle.std.proofs.lemmas.List.Sorted.{sum_by-IsPermutation, IsPermutation-map, All-permutation, list_any-IsPermutation}
use Rattle.std.proofs.lemmas.Map.Keys.{IsDistinct-push, IsDistinct-IsPermutation}
use Rattle.counter_table.specs.Tables.{count_of, is_tracked, sum_of}
use Rattle.sketch_frequencies.specs.Above.{is_above}
use Rattle.sketch_frequencies.specs.State.{FrequentState, estimate_of}
use Rattle.sketch_frequencies.specs.RowValue.{RowValue}
use Rattle.sketch_frequencies.specs.Rows.{passes, Shows, ShowsExactly}
use Rattle.sketch_frequencies.specs.declared.error_type.ErrorType.{ErrorType}
use Rattle.sketch_frequencies.proofs.Cases.{by_test}
use Rattle.sketch_frequencies.proofs.Lookups.{lookup_middle, absent_before, lookup_same}
use Rattle.sketch_frequencies.proofs.Permutations.{count_of-permutation, is_tracked-permutation}
use Rattle.sketch_frequencies.proofs.Puts.{same_set_test, is_tracked-keys}

-- the rows are those of the entries given so far
pub record RowsSoFar {T : Type 0} (eq : T → T → Bool) (kind : ErrorType) (threshold : ℕ) (s : FrequentState T) (given rest : List (T × ℕ)) (rows : List (RowValue T)) : Type 0 where
  pub counters : IsPermutation s.counters (given ++ rest)
  pub shown : All (Shows eq kind threshold s) rows
  pub among : All (λ row. list_any (eq row.item) (keys_of given) ≡ true) rows
  pub once : IsDistinct eq (map (λ row. row.item) rows)
  pub whole : (x : T) → list_any (eq x) (keys_of given) ≡ true → passes kind threshold s (count_of eq s.counters x) ≡ true → list_any (λ row. eq x row.item) rows ≡ true

pub or_true : (a : Bool) → (a || true) ≡ true
or_true true = refl
or_true false = refl

pub or_false : (b : Bool) → (b || false) ≡ true → b ≡ true
or_false true h = refl
or_false false h = h

-- a count and the error fit where the total does
pub count_fits : {T : Type 0} (s : FrequentState T) (given rest rest' : List (T × ℕ)) (e : T × ℕ) → IsPermutation s.counters (given ++ rest) → rest ≡ e ∷ rest' → sum_of s.counters + s.error ≤ s.total → e.1 + s.error ≤ s.total
count_fits {T} s given rest rest' e p is sum =
    let num : T × ℕ → ℕ = λ e. e.1 in
    omega (arith, sum_by-IsPermutation num s.counters (given ++ rest) p, sum_by-append num given rest, ap (λ l. sum_of l) is, sum_by-cons num e rest')

module _ {T : Type 0} {eq : T → T → Bool} (laws : IsEquivalence eq) (kind : ErrorType) (threshold : ℕ) (s : FrequentState T) (apart : IsDistinct eq (keys_of s.counters)) where
  abbrev item_of : RowValue T → T
  item_of row = row.item

  -- what the entry that a walk gives says of an equal item
  record SaysOf (given : List (T × ℕ)) (e : T × ℕ) (y : T) : Type 0 where
    tracked : is_tracked eq s.counters y ≡ true
    count : count_of eq s.counters y ≡ e.1
    absent : list_any (eq y) (keys_of given) ≡ false

  says_of : (given rest : List (T × ℕ)) (e : T × ℕ) (y : T) → IsPermutation s.counters (given ++ e ∷ rest) → eq e.0 y ≡ true → SaysOf given e y
  says_of given rest e y p same =
      let order = given ++ e ∷ rest in
      let apart' = IsDistinct-IsPermutation eq laws.symm (keys_of s.counters) (keys_of order) (IsPermutation-map (λ (e : T × ℕ). e.0) s.counters order p) apart in
      let found = lookup_middle laws given e rest apart' in
      let alike = sym (lookup_same laws s.counters e.0 y same) in
      record {
        tracked = ap is_some alike ∙ (sym (is_tracked-permutation laws s.counters order e.0 p) ∙ ap is_some found);
        count = ap (λ o. unwrap_or o 0) alike ∙ (sym (count_of-permutation laws s.counters order e.0 apart p) ∙ ap (λ o. unwrap_or o 0) found);
        absent = sym (same_set_test laws (keys_of given) e.0 y same) ∙ absent_before laws given e rest apart';
      }

  -- no row yet
  pub rows_none : (order : List (T × ℕ)) → IsPermutation s.counters order → RowsSoFar eq kind threshold s [] order []
  unfolding IsDistinct
  rows_none order p = record {
    counters = p;
    shown = All-nil _;
    among = All-nil _;
    once = tt;
    whole = λ x there _. absurd (false≢true there);
  }

  -- the entries given, one more among them
  more_given : (given rest rest' : List (T × ℕ)) (e : T × ℕ) → rest ≡ e ∷ rest' → IsPermutation s.counters (given ++ rest) → IsPermutation s.counters ((given ++ e ∷ []) ++ rest')
  more_given given rest rest' e is p = rw (append_assoc given (e ∷ []) rest') (subst (λ l. IsPermutation s.counters (given ++ l)) is p)

  -- an item among them, or equal to the one that came
  in_more : (given : List (T × ℕ)) (e : T × ℕ) (x : T) → list_any (eq x) (keys_of (given ++ e ∷ [])) ≡ (list_any (eq x) (keys_of given) || (eq x e.0 || false))
  in_more given e x = ap (λ l. list_any (eq x) l) (map-append (λ (p : T × ℕ). p.0) given (e ∷ [])) ∙ list_any-append (eq x) (keys_of given) (e.0 ∷ [])

  -- an item that came just now is equal to that of the entry
  came : (given : List (T × ℕ)) (e : T × ℕ) (x : T) → list_any (eq x) (keys_of (given ++ e ∷ [])) ≡ true → list_any (eq x) (keys_of given) ≡ false → eq x e.0 ≡ true
  came given e x here not_yet = or_false (eq x e.0) (ap (λ b. b || (eq x e.0 || false)) (sym not_yet) ∙ (sym (in_more given e x) ∙ here))

  -- the items shown are still among those given
  still_among : (given : List (T × ℕ)) (e : T × ℕ) (rows : List (RowValue T)) → All (λ row. list_any (eq row.item) (keys_of given) ≡ true) rows → All (λ row. list_any (eq row.item) (keys_of (given ++ e ∷ [])) ≡ true) rows
  still_among given e rows all = All-weaker (λ (row : RowValue T). list_any (eq row.item) (keys_of given) ≡ true) (λ row. list_any (eq row.item) (keys_of (given ++ e ∷ [])) ≡ true) (λ row h. in_more given e row.item ∙ ap (λ b. b || (eq row.item e.0 || false)) h) rows all

  -- an item that is not among them has no row
  apart_from_rows : (ks : List T) (y : T) → list_any (eq y) ks ≡ false → (rows : List (RowValue T)) → All (λ row. list_any (eq row.item) ks ≡ true) rows → list_any (eq y) (map item_of rows) ≡ false
  apart_from_rows ks y none [] all = refl
  apart_from_rows ks y none (r ∷ rows) all =
      let P : RowValue T → Type 0 = λ row. list_any (eq row.item) ks ≡ true in
      by_test (eq y r.item) (λ b. eq y r.item ≡ b → (b || list_any (eq y) (map item_of rows)) ≡ false)
      (λ _ same. absurd (false≢true (sym none ∙ (same_set_test laws ks y r.item same ∙ All-head P r rows all))))
      (λ _ _. apart_from_rows ks y none rows (All-tail P r rows all)) refl

  -- the estimate of a tracked item
  estimate_tracked : (y : T) → is_tracked eq s.counters y ≡ true → estimate_of eq s y ≡ count_of eq s.counters y + s.error
  estimate_tracked y tracked = rw tracked refl

  -- the entry does not pass
  pub rows_skip : (given rest rest' : List (T × ℕ)) (e : T × ℕ) (rows : List (RowValue T)) → rest ≡ e ∷ rest' → RowsSoFar eq kind threshold s given rest rows → passes kind threshold s e.1 ≡ false → RowsSoFar eq kind threshold s (given ++ e ∷ []) rest' rows
  rows_skip given rest rest' e rows is before low =
      let there = subst (λ l. IsPermutation s.counters (given ++ l)) is before.counters in
      record {
        counters = more_given given rest rest' e is before.counters;
        shown = before.shown;
        among = still_among given e rows before.among;
        once = before.once;
        whole = λ x here high.
            by_test (list_any (eq x) (keys_of given)) (λ b. list_any (eq x) (keys_of given) ≡ b → list_any (λ row. eq x row.item) rows ≡ true)
            (λ _ yet. before.whole x yet high)
            (λ _ not_yet.
            let same = came given e x here not_yet in
            let says = says_of given rest' e x there (laws.symm e.0 x ∙ same) in
            absurd (false≢true (sym low ∙ (ap (λ n. passes kind threshold s n) (sym says.count) ∙ high)))) refl;
      }

  -- the entry passes, and its row is shown
  pub rows_more : (given rest rest' : List (T × ℕ)) (e : T × ℕ) (rows : List (RowValue T)) (row : RowValue T) → rest ≡ e ∷ rest' → RowsSoFar eq kind threshold s given rest rows → eq e.0 row.item ≡ true → passes kind threshold s e.1 ≡ true → row.estimate ≡ e.1 + s.error → row.upper_bound ≡ e.1 + s.error → row.lower_bound ≡ e.1 → RowsSoFar eq kind threshold s (given ++ e ∷ []) rest' (rows ++ row ∷ [])
  rows_more given rest rest' e rows row is before same high estimate upper lower =
      let says = says_of given rest' e row.item (subst (λ l. IsPermutation s.counters (given ++ l)) is before.counters) same in
      let shows : Shows eq kind threshold s row = record {
        tracked = says.tracked;
        passing = ap (λ n. passes kind threshold s n) says.count ∙ high;
        estimate = estimate ∙ (ap (λ n. n + s.error) (sym says.count) ∙ sym (estimate_tracked row.item says.tracked));
        upper_bound = upper ∙ ap (λ n. n + s.error) (sym says.count);
        lower_bound = lower ∙ sym says.count;
      } in
      record {
        counters = more_given given rest rest' e is before.counters;
        shown = All-push (Shows eq kind threshold s) rows row before.shown shows;
        among = All-push (λ row. list_any (eq row.item) (keys_of (given ++ e ∷ [])) ≡ true) rows row (still_among given e rows before.among)
            (in_more given e row.item ∙ (ap (λ b. list_any (eq row.item) (keys_of given) || (b || false)) (laws.symm row.item e.0 ∙ same) ∙ or_true (list_any (eq row.item) (keys_of given))));
        once = rw (map-append item_of rows (row ∷ [])) (IsDistinct-push laws (map item_of rows) row.item before.once (apart_from_rows (keys_of given) row.item says.absent rows before.among));
        whole = λ x here pass.
            by_test (list_any (eq x) (keys_of given)) (λ b. list_any (eq x) (keys_of given) ≡ b → list_any (λ row. eq x row.item) (rows ++ row ∷ []) ≡ true)
            (λ _ yet. list_any-append (λ row. eq x row.item) rows (row ∷ []) ∙ ap (λ b. b || (eq x row.item || false)) (before.whole x yet pass))
            (λ _ not_yet.
            let equal = laws.congr x e.0 row.item (came given e x here not_yet) ∙ same in
            list_any-append (λ row. eq x row.item) rows (row ∷ []) ∙ (ap (λ b. list_any (λ row. eq x row.item) rows || (b || false)) equal ∙ or_true (list_any (λ row. eq x row.item) rows))) refl;
      }

  -- all entries were given
  pub rows_done : (given rest : List (T × ℕ)) (rows : List (RowValue T)) → rest ≡ [] → RowsSoFar eq kind threshold s given rest rows → ShowsExactly eq kind threshold s rows
  rows_done given rest rows is all =
      let every = subst (λ l. IsPermutation s.counters l) (ap (λ l. given ++ l) is ∙ append-nil given) all.counters in
      record {
        shown = all.shown;
        once = all.once;
        whole = λ x tracked pass. all.whole x (sym (list_any-IsPermutation (eq x) (keys_of s.counters) (keys_of given) (IsPermutation-map (λ (e : T × ℕ). e.0) s.counters given every)) ∙ (sym (is_tracked-keys eq s.counters x) ∙ tracked)) pass;
      }

-- the same rows in another order
pub exact_in_order : {T : Type 0} {eq : T → T → Bool} → IsEquivalence eq → (kind : ErrorType) (threshold : ℕ) (s : FrequentState T) (rows sorted : List (RowValue T)) → IsPermutation rows sorted → ShowsExactly eq kind threshold s rows → ShowsExactly eq kind threshold s sorted
exact_in_order {T} {eq} laws kind threshold s rows sorted p exact =
    let item_of : RowValue T → T = λ row. row.item in
    record {
      shown = All-permutation (Shows eq kind threshold s) rows sorted p exact.shown;
      once = IsDistinct-IsPermutation eq laws.symm (map item_of rows) (map item_of sorted) (IsPermutation-map item_of rows sorted p) exact.once;
      whole = λ x tracked pass. sym (list_any-IsPermutation (λ row. eq x row.item) rows sorted p) ∙ exact.whole x tracked pass;
    }

-- an item passes as the test of its row says, which goes by the sketch's error
pub passes_tested : {T : Type 0} (kind : ErrorType) (threshold : ℕ) (s : FrequentState T) (count error floor : ℕ) (tested b : Bool) → error ≡ s.error → floor ≡ max threshold error → tested ≡ is_above kind floor count (count + error) → tested ≡ b → passes kind threshold s count ≡ b
passes_tested kind threshold s count error floor tested b own floor_is test_is is =
    subst (λ (e : ℕ). is_above kind (max threshold e) count (count + e) ≡ b) own (ap (λ (f : ℕ). is_above kind f count (count + error)) (sym floor_is) ∙ (sym test_is ∙ is))
