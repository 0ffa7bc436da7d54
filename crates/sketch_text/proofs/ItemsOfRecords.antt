-- The items of records with their weights, record by record.
use Rattle.std.proofs.Common.{◌≡◌, ℕ, ◌+◌, ◌≤◌, ◌<◌, Bool, true, false, cond, List, [], ◌∷◌, ◌++◌, length, map, drop, Option, Some, None, inl, inr, append-nil, append_assoc, refl, sym, ◌∙◌, ap, subst, arith, length-append}
use Rattle.std.specs.List.{flat_map}
use Rattle.std.specs.Str.{IsUtf8, is_utf8}
use Rattle.std.proofs.lemmas.List.{map-append}
use Rattle.std.proofs.lemmas.List.Concat.{flat_map-append}
use Rattle.std.proofs.lemmas.Str.{IsUtf8-from_is_utf8, is_utf8-from_IsUtf8}
use Rattle.sketch_base.specs.Errors.{ErrorValue, invalid_argument}
use Rattle.sketch_base.specs.declared.fault.Fault.TheVariants.{BadWeight, InvalidUtf8}
use Rattle.sketch_text.specs.RecordItems.{AreItems, FailsItems, FailsRecord, ItemsValue, faults_in, faults_of, weight_by, weighed_item, weighed_items}
use Rattle.sketch_text.specs.Records.{IsEndOf, part_in, records_by}
use Rattle.sketch_text.specs.declared.record_items.BadRecord.{BadRecord}
use Rattle.sketch_text.specs.declared.record_items.WeighedRecord.{WeighedRecord}
use Rattle.sketch_text.proofs.Tails.{end_of_end}

no_utf8 : (item : List ℕ) → ¬ (IsUtf8 item) → is_utf8 item ≡ false
no_utf8 item other = elim (is_utf8 item) as (λ b. is_utf8 item ≡ b → b ≡ false) [
  | true ↦ λ e. absurd (other (IsUtf8-from_is_utf8 item e))
  | false ↦ λ e. refl
] refl

-- ---- one record

module _ {W : Type 0} (reads : List ℕ → Option W) (one : W) (chosen : WeighedRecord) (row : List ℕ) where
  pub none_bad : part_in chosen.item row ≡ [] → faults_in reads one chosen row ≡ []
  none_bad none = ap (flat_map (faults_of (weight_by reads one chosen.weight row))) none

  module _ (item : List ℕ) (has : part_in chosen.item row ≡ item ∷ []) where
    faults_are : faults_in reads one chosen row ≡ faults_of (weight_by reads one chosen.weight row) item
    faults_are = ap (flat_map (faults_of (weight_by reads one chosen.weight row))) has ∙ append-nil (faults_of (weight_by reads one chosen.weight row) item)

    bad_item : (weight : Option W) → is_utf8 item ≡ false → faults_of weight item ≡ InvalidUtf8 ∷ []
    bad_item None e = rw e refl
    bad_item (Some weight) e = rw e refl

    pub not_utf8 : (e : ErrorValue) → e ≡ invalid_argument InvalidUtf8 → ¬ (IsUtf8 item) → FailsRecord reads one chosen row e
    not_utf8 e is other = inr (InvalidUtf8, is, faults_are ∙ bad_item (weight_by reads one chosen.weight row) (no_utf8 item other))

    pub no_weight : (e : ErrorValue) → e ≡ invalid_argument BadWeight → IsUtf8 item → weight_by reads one chosen.weight row ≡ None → FailsRecord reads one chosen row e
    no_weight e is utf8 none =
        inr (BadWeight, is, faults_are ∙ (ap (λ (w : Option W). faults_of w item) none ∙ ap (λ (b : Bool). cond b (BadWeight ∷ []) (InvalidUtf8 ∷ [])) (is_utf8-from_IsUtf8 item utf8)))

    pub good_item : (weight : W) → IsUtf8 item → weight_by reads one chosen.weight row ≡ Some weight → faults_in reads one chosen row ≡ []
    good_item weight utf8 some =
        faults_are ∙ (ap (λ (w : Option W). faults_of w item) some ∙ ap (λ (b : Bool). cond b [] (InvalidUtf8 ∷ [])) (is_utf8-from_IsUtf8 item utf8))

-- ---- records so far

-- some records come before the rest, and these are their items
pub record HasTaken {W : Type 0} (reads : List ℕ → Option W) (one : W) (chosen : WeighedRecord) (bytes rest : List ℕ) (count : ℕ) (found : ItemsValue W) : Type 0 where
  pub before : List (List ℕ)
  pub split : records_by chosen.item bytes ≡ before ++ records_by chosen.item rest
  pub end : IsEndOf bytes rest
  pub within : count + length rest ≤ length bytes
  pub good : flat_map (faults_in reads one chosen) before ≡ []
  pub items : found.items ≡ map (λ pair. pair.0) (weighed_items reads one chosen before)
  pub weights : found.weights ≡ map (λ pair. pair.1) (weighed_items reads one chosen before)
  pub counted : count ≡ length before

module _ {W : Type 0} (reads : List ℕ → Option W) (one : W) (chosen : WeighedRecord) (bytes : List ℕ) where
  pub taken_none : (found : ItemsValue W) → found ≡ record { items = []; weights = []; num_records = 0 } → IsEndOf bytes bytes → HasTaken reads one chosen bytes bytes 0 found
  taken_none found is end = record {
    before = [];
    split = refl;
    end = end;
    within = omega arith;
    good = refl;
    items = ap (λ (v : ItemsValue W). v.items) is;
    weights = ap (λ (v : ItemsValue W). v.weights) is;
    counted = refl;
  }

  module _ (rest : List ℕ) (count : ℕ) (found : ItemsValue W) (so : HasTaken reads one chosen bytes rest count found) where
    pub taken_more : (row after : List ℕ) (next : ItemsValue W) → records_by chosen.item rest ≡ row ∷ records_by chosen.item after → length after < length rest → IsEndOf rest after → faults_in reads one chosen row ≡ []
        → next.items ≡ found.items ++ map (λ pair. pair.0) (weighed_item reads one chosen row)
        → next.weights ≡ found.weights ++ map (λ pair. pair.1) (weighed_item reads one chosen row)
        → HasTaken reads one chosen bytes after (count + 1) next
    taken_more row after next first shorter end good items weights =
        let more : weighed_items reads one chosen (so.before ++ row ∷ []) ≡ weighed_items reads one chosen so.before ++ weighed_item reads one chosen row =
        flat_map-append (weighed_item reads one chosen) so.before (row ∷ []) ∙ ap (λ l. weighed_items reads one chosen so.before ++ l) (append-nil (weighed_item reads one chosen row)) in record {
          before = so.before ++ row ∷ [];
          split = so.split ∙ (ap (λ l. so.before ++ l) first ∙ sym (append_assoc so.before (row ∷ []) (records_by chosen.item after)));
          end = end_of_end bytes rest after so.end end;
          within = omega (arith, so.within, shorter);
          good =
              flat_map-append (faults_in reads one chosen) so.before (row ∷ [])
              ∙ (ap (λ l. l ++ flat_map (faults_in reads one chosen) (row ∷ [])) so.good
              ∙ (append-nil (faults_in reads one chosen row) ∙ good));
          items =
              items
              ∙ (ap (λ l. l ++ map (λ pair. pair.0) (weighed_item reads one chosen row)) so.items
              ∙ (sym (map-append (λ (pair : List ℕ × W). pair.0) (weighed_items reads one chosen so.before) (weighed_item reads one chosen row))
              ∙ sym (ap (map (λ (pair : List ℕ × W). pair.0)) more)));
          weights =
              weights
              ∙ (ap (λ l. l ++ map (λ pair. pair.1) (weighed_item reads one chosen row)) so.weights
              ∙ (sym (map-append (λ (pair : List ℕ × W). pair.1) (weighed_items reads one chosen so.before) (weighed_item reads one chosen row))
              ∙ sym (ap (map (λ (pair : List ℕ × W). pair.1)) more)));
          counted = omega (arith, so.counted, length-append so.before (row ∷ []));
        }

    -- no records are left
    pub taken_all : (whole : ItemsValue W) → records_by chosen.item rest ≡ [] → whole ≡ record { items = found.items; weights = found.weights; num_records = count } → AreItems reads one chosen (records_by chosen.item bytes) whole
    taken_all whole none is =
        let all : records_by chosen.item bytes ≡ so.before = so.split ∙ (ap (λ l. so.before ++ l) none ∙ append-nil so.before) in
        subst (λ (rows : List (List ℕ)). AreItems reads one chosen rows whole) (sym all) (subst (λ (v : ItemsValue W). AreItems reads one chosen so.before v) (sym is) (record {
          good = so.good;
          items = so.items;
          weights = so.weights;
          num_records = so.counted;
        }))

    -- the next record has a fault
    pub taken_bad : (row after : List ℕ) (bad : BadRecord) → records_by chosen.item rest ≡ row ∷ records_by chosen.item after → rest ≡ drop bad.offset bytes → FailsRecord reads one chosen row bad.error → FailsItems reads one chosen bytes bad
    taken_bad row after bad first here (inl none) = inl none
    taken_bad row after bad first here (inr failed) = inr (
      failed.0,
      failed.1,
      record {
        before = so.before;
        row = row;
        after = records_by chosen.item after;
        split = so.split ∙ ap (λ l. so.before ++ l) first;
        begins = ap (records_by chosen.item) (sym here) ∙ first;
        good = so.good;
        bad = failed.2;
      },
    )
