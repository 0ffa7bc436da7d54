-- Keys that are taken into a map, and weights that are added to their sums.
use Rattle.std.proofs.Common.{◌≡◌, ⊎_elim, inl, inr, ℕ, zero, suc, ◌+◌, ◌-◌, ◌^◌, ◌<◌, ◌≤◌, Bool, true, false, cond, min, List, [], ◌∷◌, ◌++◌, length, slice_get, Option, None, Some, Contains, is_some, append_assoc, append-nil, refl, sym, ◌∙◌, ap, subst, arith, true≢false}
use Rattle.std.proofs.lemmas.Bool.{false≢true}
use Rattle.std.proofs.lemmas.List.{map-append}
use Rattle.std.proofs.lemmas.List.Concat.{flat_map-append}
use Rattle.std.proofs.lemmas.List.Elements.{Contains-append_cases, Contains-append_left, Contains-push, Contains-push_cases}
use Rattle.std.proofs.lemmas.List.Sums.{sum_by-append}
use Rattle.std.proofs.lemmas.Slice.Eq.{bytes_eq-Decides}
use Rattle.std.specs.Global.{Global}
use Rattle.std.specs.List.{AllZip, AllByRecursion, IsDistinct, flat_map}
use Rattle.std.specs.Map.{keys_of, lookup, lookup_key, set_value}
use Rattle.std.specs.Option.{unwrap_or}
use Rattle.std.specs.Prelude.{if◌then◌else◌}
use Rattle.std.specs.Str.{bytes_eq}
use Rattle.std.specs.declared.vec.Vec.{Vec}
use Rattle.indexmap.specs.IndexMap.{insert_entry}
use Rattle.sketch_text.specs.Records.{part_in, splits_by}
use Rattle.sketch_text.specs.declared.record_part.RecordPart.{RecordPart}
use Rattle.sketch_frequencies.proofs.KeyedBatches.{all_zip_push}
use Rattle.sketches.proofs.KeyWeights.{weight_within}
use Rattle.sketches.proofs.LineCounts.{IsNextCount, more_numbers, no_numbers}
use Rattle.sketches.specs.KeySumLaws.{all_sums, no_sums, one_sum, taken_both, taken_none, taking_after, taking_more}
use Rattle.sketches.specs.KeySums.{AddsItems, AddsLines, AddsWeight, FailsTakingKeys, FindsKey, HoldsSums, Sums, TakesKeys, names}
use Rattle.sketches.specs.KeyWeightLaws.{lines_later, one_fails}
use Rattle.sketches.specs.KeyWeights.{unweighed_line, weighed_line}
use Rattle.sketches.specs.LineNumbers.{lines_of}
use Rattle.sketches.specs.Utf8Lines.{GrowsBy}
use Rattle.sketches.specs.WeighFailures.{FailsLines, FailsRecord}
use Rattle.sketches.specs.Weighed.{Weighed, total_of, weight_of}
use Rattle.sketches.specs.declared.failure.Failure.{Failure}
use Rattle.sketches.specs.declared.failure.Failure.TheVariants.{BadSize}
use Rattle.sketches.specs.declared.item.weighing.WeighedRecord.{WeighedRecord}

-- ---- the keys of records

-- the keys of the records before those that are left were taken
pub record HasTakenKeys (part : RecordPart) (a : Sums) (o : List ℕ) (all left : List (List ℕ)) (b : Sums) (p : List ℕ) : Type 0 where
  pub done : List (List ℕ)
  pub parts : all ≡ done ++ left
  pub takes : TakesKeys a o (flat_map (part_in part) done) b p

pub keys_begun : (part : RecordPart) (a : Sums) (o : List ℕ) (all : List (List ℕ)) → HasTakenKeys part a o all all a o
keys_begun part a o all = record { done = []; parts = refl; takes = taken_none a o }

-- one more record
pub keys_more : (part : RecordPart) (a b c : Sums) (o p q : List ℕ) (all left later : List (List ℕ)) (line : List ℕ) → HasTakenKeys part a o all left b p → left ≡ line ∷ later → TakesKeys b p (part_in part line) c q → HasTakenKeys part a o all later c q
keys_more part a b c o p q all left later line so next more = record {
  done = so.done ++ line ∷ [];
  parts = so.parts ∙ (ap (λ l. so.done ++ l) next ∙ sym (append_assoc so.done (line ∷ []) later));
  takes =
      subst (λ l. TakesKeys a o l c q) (sym (flat_map-append (part_in part) so.done (line ∷ []) ∙ ap (λ l. flat_map (part_in part) so.done ++ l) (append-nil (part_in part line))))
      (taken_both a b c o p q (flat_map (part_in part) so.done) (part_in part line) so.takes more);
}

-- all records
pub keys_all : (part : RecordPart) (a b : Sums) (o p : List ℕ) (all left : List (List ℕ)) → HasTakenKeys part a o all left b p → left ≡ [] → TakesKeys a o (flat_map (part_in part) all) b p
keys_all part a b o p all left so none = subst (λ l. TakesKeys a o (flat_map (part_in part) l) b p) (sym (so.parts ∙ (ap (λ l. so.done ++ l) none ∙ append-nil so.done))) so.takes

-- a failure at one more record
pub keys_failed : (part : RecordPart) (max : ℕ) (a b : Sums) (o p : List ℕ) (all left later : List (List ℕ)) (line : List ℕ) (e : Failure) → HasTakenKeys part a o all left b p → left ≡ line ∷ later → FailsTakingKeys max b p (part_in part line) e → FailsTakingKeys max a o (flat_map (part_in part) all) e
keys_failed part max a b o p all left later line e so next f =
    subst (λ l. FailsTakingKeys max a o l e) (sym (ap (flat_map (part_in part)) (so.parts ∙ ap (λ l. so.done ++ l) next) ∙ flat_map-append (part_in part) so.done (line ∷ later)))
    (taking_after max a b o p (flat_map (part_in part) so.done) (part_in part line ++ flat_map (part_in part) later) e so.takes
    (taking_more max b p (part_in part line) (flat_map (part_in part) later) e f))

-- ---- one key

abbrev Key : Type 0
Key = Vec ℕ Global

-- whether two keys of the map are equal, and whether one is equal to these bytes
abbrev same_key : Key → Key → Bool
same_key x y = bytes_eq x.items y.items

abbrev is_key : List ℕ → Key → Bool
is_key key x = bytes_eq key x.items

named_at : (sums : Sums) (i : ℕ) (k : Key) (v : ℕ) → slice_get sums i ≡ Some (k, v) → slice_get (names sums) i ≡ Some k.items
named_at [] i k v e = absurd (false≢true (ap is_some e))
named_at (x ∷ sums) zero k v e = ap (λ (o : Option (Key × ℕ)). Some (unwrap_or o (k, v)).0.items) e
named_at (x ∷ sums) (suc i) k v e = named_at sums i k v e

get_more : (xs ys : List (List ℕ)) (i : ℕ) (k : List ℕ) → slice_get xs i ≡ Some k → slice_get (xs ++ ys) i ≡ Some k
get_more [] ys i k e = absurd (false≢true (ap is_some e))
get_more (x ∷ xs) ys zero k e = e
get_more (x ∷ xs) ys (suc i) k e = get_more xs ys i k e

get_last : (xs : List (List ℕ)) (k : List ℕ) → slice_get (xs ++ k ∷ []) (length xs) ≡ Some k
get_last [] k = refl
get_last (x ∷ xs) k = get_last xs k

zip_weaker : (R S : ℕ → List ℕ → Type 0) → ((i : ℕ) (k : List ℕ) → R i k → S i k) → (order : List ℕ) (keys : List (List ℕ)) → AllZip R order keys → AllZip S order keys
zip_weaker R S weaker [] [] all = tt
zip_weaker R S weaker [] (k ∷ keys) all = absurd all
zip_weaker R S weaker (i ∷ order) [] all = absurd all
zip_weaker R S weaker (i ∷ order) (k ∷ keys) all = (weaker i k all.0, zip_weaker R S weaker order keys all.1)

holds_more : (items : Weighed) (sums : Sums) (k : Key) (v : ℕ) → HoldsSums items sums → v ≡ weight_of items k.items → HoldsSums items (sums ++ (k, v) ∷ [])
holds_more items [] k v holds is = (is, tt)
holds_more items (x ∷ sums) k v holds is = (holds.0, holds_more items sums k v holds.1 is)

names_more : (sums : Sums) (k : Key) → names (sums ++ (k, 0) ∷ []) ≡ names sums ++ k.items ∷ []
names_more sums k = map-append (λ (entry : Key × ℕ). entry.0.items) sums ((k, 0) ∷ [])

pub length_names : (sums : Sums) → length (names sums) ≡ length sums
length_names [] = refl
length_names (x ∷ sums) = ap suc (length_names sums)

-- the key of an index follows those before
pub key_taken : (sums sums' : Sums) (order : List ℕ) (key : List ℕ) (index : ℕ) → FindsKey sums key sums' index → TakesKeys sums order (key ∷ []) sums' (order ++ index ∷ [])
key_taken sums sums' order key index finds = λ keys holds. ⊎_elim
    (λ same. record {
      named = all_zip_push (λ i k. slice_get (names sums') i ≡ Some k) order keys index key (subst (λ (s : Sums). AllZip (λ i k. slice_get (names s) i ≡ Some k) order keys) (sym same) holds.named) finds.at;
      among = λ k here. Contains-append_left keys (key ∷ []) k (holds.among k (subst (λ (s : Sums). Contains (names s) k) same here));
      empty = subst (λ (s : Sums). HoldsSums [] s) (sym same) holds.empty;
    })
    (λ (stored, is, grown).
    let all : names sums' ≡ names sums ++ key ∷ [] = ap names grown ∙ (names_more sums stored ∙ ap (λ (k : List ℕ). names sums ++ k ∷ []) is) in
    record {
      named = all_zip_push (λ i k. slice_get (names sums') i ≡ Some k) order keys index key
          (zip_weaker (λ i k. slice_get (names sums) i ≡ Some k) (λ i k. slice_get (names sums') i ≡ Some k)
          (λ i k e. ap (λ l. slice_get l i) all ∙ get_more (names sums) (key ∷ []) i k e) order keys holds.named) finds.at;
      among = λ k here. ⊎_elim
          (λ old. Contains-append_left keys (key ∷ []) k (holds.among k old))
          (λ same. subst (Contains (keys ++ key ∷ [])) same (Contains-push keys key))
          (Contains-push_cases (names sums) key k (subst (λ l. Contains l k) all here));
      empty = subst (λ (s : Sums). HoldsSums [] s) (sym grown) (holds_more [] sums stored 0 holds.empty refl);
    })
    finds.grows

-- ---- the index of a key

pub same_bytes : (x y : List ℕ) → bytes_eq x y ≡ true → x ≡ y
same_bytes x y e = (bytes_eq-Decides x y).0 e

found_passes : (test : Key → Bool) (sums : Sums) (k : Key) → lookup_key test sums ≡ Some k → test k ≡ true
found_passes test [] k e = absurd (false≢true (ap is_some e))
found_passes test (x ∷ sums) k e = by (test x.0) refl (found_passes test sums k)
  where
    by : (b : Bool) → test x.0 ≡ b → (lookup_key test sums ≡ Some k → test k ≡ true) → test k ≡ true
    by true t rest = subst (λ (y : Key). test y ≡ true) (ap (λ (o : Option Key). unwrap_or o k) (sym (ap (λ b. cond b (Some x.0) (lookup_key test sums)) t) ∙ e)) t
    by false t rest = rest (sym (ap (λ b. cond b (Some x.0) (lookup_key test sums)) t) ∙ e)

-- the map has the key
pub finds_old : (sums : Sums) (key : List ℕ) (k : Key) (v index : ℕ) → Some k ≡ lookup_key (is_key key) sums → slice_get sums index ≡ Some (k, v) → FindsKey sums key sums index
finds_old sums key k v index found at = record {
  at = named_at sums index k v at ∙ ap Some (sym (same_bytes key k.items (found_passes (is_key key) sums k (sym found))));
  grows = inl refl;
}

-- no key passes the test
absent : (test : Key → Bool) (sums : Sums) → lookup_key test sums ≡ None → AllByRecursion (λ (k : Key). test k ≡ false) (keys_of sums)
absent test [] e = tt
absent test (x ∷ sums) e = by (test x.0) refl (absent test sums)
  where
    by : (b : Bool) → test x.0 ≡ b → (lookup_key test sums ≡ None → AllByRecursion (λ (k : Key). test k ≡ false) (keys_of sums)) → AllByRecursion (λ (k : Key). test k ≡ false) (keys_of (x ∷ sums))
    by true t rest = absurd (true≢false (ap is_some (sym (ap (λ b. cond b (Some x.0) (lookup_key test sums)) t) ∙ e)))
    by false t rest = (t, rest (sym (ap (λ b. cond b (Some x.0) (lookup_key test sums)) t) ∙ e))

inserted : (sums : Sums) (stored : Key) (v : ℕ) → AllByRecursion (λ (k : Key). same_key stored k ≡ false) (keys_of sums) → insert_entry same_key sums stored v ≡ sums ++ (stored, v) ∷ []
inserted [] stored v none = refl
inserted (x ∷ sums) stored v none =
    ap (λ b. if b then (x.0, v) ∷ sums else x ∷ insert_entry same_key sums stored v) none.0 ∙ ap (λ (l : Sums). x ∷ l) (inserted sums stored v none.1)

-- the key is new
pub finds_new : (sums sums' : Sums) (key : List ℕ) (stored : Key) (index : ℕ) → stored.items ≡ key → None ≡ lookup_key (is_key key) sums → sums' ≡ insert_entry same_key sums stored 0 → index ≡ length sums → FindsKey sums key sums' index
finds_new sums sums' key stored index is none new last =
    let none' : lookup_key (is_key stored.items) sums ≡ None = subst (λ (k : List ℕ). lookup_key (is_key k) sums ≡ None) (sym is) (sym none) in
    let grown : sums' ≡ sums ++ (stored, 0) ∷ [] = new ∙ inserted sums stored 0 (absent (is_key stored.items) sums none') in
    let all : names sums' ≡ names sums ++ key ∷ [] = ap names grown ∙ (names_more sums stored ∙ ap (λ (k : List ℕ). names sums ++ k ∷ []) is) in
    record {
      at = ap (λ l. slice_get l index) all ∙ (ap (slice_get (names sums ++ key ∷ [])) (last ∙ sym (length_names sums)) ∙ get_last (names sums) key);
      grows = inr (stored, is, grown);
    }

apart_names : (key : List ℕ) (sums : Sums) → AllByRecursion (λ (k : Key). is_key key k ≡ false) (keys_of sums) → AllByRecursion (λ (k : List ℕ). bytes_eq key k ≡ false) (names sums)
apart_names key [] none = tt
apart_names key (x ∷ sums) none = (none.0, apart_names key sums none.1)

distinct_names : (sums : Sums) → IsDistinct same_key (keys_of sums) → IsDistinct bytes_eq (names sums)
unfolding IsDistinct
distinct_names [] d = tt
distinct_names (x ∷ sums) d = (apart_names x.0.items sums d.0, distinct_names sums d.1)

distinct_more : (key : List ℕ) (sums : Sums) → IsDistinct same_key (keys_of sums) → AllByRecursion (λ (k : Key). is_key key k ≡ false) (keys_of sums) → IsDistinct bytes_eq (key ∷ names sums)
unfolding IsDistinct
distinct_more key sums d none = (apart_names key sums none, distinct_names sums d)

-- the key is one too many
pub key_too_many : (max : ℕ) (sums : Sums) (order : List ℕ) (key : List ℕ) → IsDistinct same_key (keys_of sums) → None ≡ lookup_key (is_key key) sums → max ≤ length sums → FailsTakingKeys max sums order (key ∷ []) BadSize
key_too_many max sums order key unique none full = λ keys holds. (
  key ∷ names sums,
  distinct_more key sums unique (absent (is_key key) sums (sym none)),
  λ k here. ⊎_elim
      (λ first. ⊎_elim
      (λ no. absurd (omega (arith, no.1)))
      (λ same. subst (Contains (keys ++ key ∷ [])) same (Contains-push keys key))
      (Contains-push_cases [] key k first))
      (λ old. Contains-append_left keys (key ∷ []) k (holds.among k old))
      (Contains-append_cases (key ∷ []) (names sums) k here),
  omega (arith, full, length_names sums),
)

-- ---- the weight of one item

names_set : (test : Key → Bool) (sums : Sums) (w : ℕ) → names (set_value test sums w) ≡ names sums
names_set test [] w = refl
names_set test (x ∷ sums) w = by (test x.0) refl (names_set test sums w)
  where
    by : (b : Bool) → test x.0 ≡ b → names (set_value test sums w) ≡ names sums → names (set_value test (x ∷ sums) w) ≡ names (x ∷ sums)
    by true t rest = ap (λ b. names (cond b ((x.0, w) ∷ sums) (x ∷ set_value test sums w))) t
    by false t rest = ap (λ b. names (cond b ((x.0, w) ∷ sums) (x ∷ set_value test sums w))) t ∙ ap (λ l. x.0.items ∷ l) rest

abbrev after_one : Weighed → List ℕ → ℕ → Weighed
after_one before item weight = before ++ (item, weight) ∷ []

-- the weight of a key grows by that of an item that is equal to it
weight_more : (before : Weighed) (item : List ℕ) (weight : ℕ) (key : List ℕ) → weight_of (after_one before item weight) key ≡ weight_of before key + cond (bytes_eq item key) weight 0
weight_more before item weight key = omega (arith, sum_by-append (λ (pair : List ℕ × ℕ). cond (bytes_eq pair.0 key) pair.1 0) before ((item, weight) ∷ []))

weight_same : (before : Weighed) (item : List ℕ) (weight : ℕ) (key : List ℕ) (v : ℕ) → bytes_eq item key ≡ false → v ≡ weight_of before key → v ≡ weight_of (after_one before item weight) key
weight_same before item weight key v other is = omega (arith, is, weight_more before item weight key, ap (λ b. cond b weight 0) other)

-- the sums stay if no key is equal to the item
kept : (before : Weighed) (item : List ℕ) (weight : ℕ) (sums : Sums) → AllByRecursion (λ (k : Key). is_key item k ≡ false) (keys_of sums) → HoldsSums before sums → HoldsSums (after_one before item weight) sums
kept before item weight [] none holds = tt
kept before item weight (x ∷ sums) none holds = (weight_same before item weight x.0.items x.1 none.0 holds.0, kept before item weight sums none.1 holds.1)

others : (item : List ℕ) (k : Key) (sums : Sums) → item ≡ k.items → AllByRecursion (λ (y : Key). same_key k y ≡ false) (keys_of sums) → AllByRecursion (λ (y : Key). is_key item y ≡ false) (keys_of sums)
others item k sums same apart = subst (λ (i : List ℕ). AllByRecursion (λ (y : Key). is_key i y ≡ false) (keys_of sums)) (sym same) apart

-- the sum of the key that is equal to the item grows by its weight
grown : (before : Weighed) (item : List ℕ) (weight : ℕ) (sums : Sums) (v w : ℕ) → IsDistinct same_key (keys_of sums) → lookup (is_key item) sums ≡ Some v → w ≡ v + weight → HoldsSums before sums → HoldsSums (after_one before item weight) (set_value (is_key item) sums w)
unfolding IsDistinct
grown before item weight [] v w unique found more holds = tt
grown before item weight (x ∷ sums) v w unique found more holds = by (is_key item x.0) refl (λ later. grown before item weight sums v w unique.1 later more holds.1)
  where
    by : (b : Bool) → is_key item x.0 ≡ b → (lookup (is_key item) sums ≡ Some v → HoldsSums (after_one before item weight) (set_value (is_key item) sums w)) → HoldsSums (after_one before item weight) (set_value (is_key item) (x ∷ sums) w)
    by true t rest =
        let here : x.1 ≡ v = ap (λ (o : Option ℕ). unwrap_or o v) (sym (ap (λ b. cond b (Some x.1) (lookup (is_key item) sums)) t) ∙ found) in
        subst (λ b. HoldsSums (after_one before item weight) (cond b ((x.0, w) ∷ sums) (x ∷ set_value (is_key item) sums w))) (sym t) (
          omega (arith, more, here, holds.0, weight_more before item weight x.0.items, ap (λ b. cond b weight 0) t),
          kept before item weight sums (others item x.0 sums (same_bytes item x.0.items t) unique.0) holds.1,
        )
    by false t rest =
        subst (λ b. HoldsSums (after_one before item weight) (cond b ((x.0, w) ∷ sums) (x ∷ set_value (is_key item) sums w))) (sym t) (
          weight_same before item weight x.0.items x.1 t holds.0,
          rest (sym (ap (λ b. cond b (Some x.1) (lookup (is_key item) sums)) t) ∙ found),
        )

-- the sum that is found is a weight
sum_is : (before : Weighed) (item : List ℕ) (sums : Sums) (v : ℕ) → lookup (is_key item) sums ≡ Some v → HoldsSums before sums → v ≤ total_of before
sum_is before item [] v found holds = absurd (false≢true (ap is_some found))
sum_is before item (x ∷ sums) v found holds = by (is_key item x.0) refl (λ later. sum_is before item sums v later holds.1)
  where
    by : (b : Bool) → is_key item x.0 ≡ b → (lookup (is_key item) sums ≡ Some v → v ≤ total_of before) → v ≤ total_of before
    by true t rest =
        let here : x.1 ≡ v = ap (λ (o : Option ℕ). unwrap_or o v) (sym (ap (λ b. cond b (Some x.1) (lookup (is_key item) sums)) t) ∙ found) in
        omega (arith, here, holds.0, weight_within (λ (i : List ℕ). bytes_eq i x.0.items) before)
    by false t rest = rest (sym (ap (λ b. cond b (Some x.1) (lookup (is_key item) sums)) t) ∙ found)

lookup_absent : (test : Key → Bool) (sums : Sums) → lookup test sums ≡ None → AllByRecursion (λ (k : Key). test k ≡ false) (keys_of sums)
lookup_absent test [] e = tt
lookup_absent test (x ∷ sums) e = by (test x.0) refl (lookup_absent test sums)
  where
    by : (b : Bool) → test x.0 ≡ b → (lookup test sums ≡ None → AllByRecursion (λ (k : Key). test k ≡ false) (keys_of sums)) → AllByRecursion (λ (k : Key). test k ≡ false) (keys_of (x ∷ sums))
    by true t rest = absurd (true≢false (ap is_some (sym (ap (λ b. cond b (Some x.1) (lookup test sums)) t) ∙ e)))
    by false t rest = (t, rest (sym (ap (λ b. cond b (Some x.1) (lookup test sums)) t) ∙ e))

-- the sum was written: that before plus the weight, unless it is too large
pub weight_added : (sums sums' : Sums) (item : List ℕ) (weight v w : ℕ) → IsDistinct same_key (keys_of sums) → lookup (is_key item) sums ≡ Some v → (v + weight < 2 ^ 64 → w ≡ v + weight) → sums' ≡ set_value (is_key item) sums w → AddsWeight sums item weight sums'
weight_added sums sums' item weight v w unique found fits wrote = λ before small holds.
    subst (λ (s : Sums). HoldsSums (after_one before item weight) s) (sym wrote)
    (grown before item weight sums v w unique found (fits (omega (arith, small, sum_is before item sums v found holds))) holds)

-- no key is equal to the item
pub weight_left : (sums sums' : Sums) (item : List ℕ) (weight : ℕ) → lookup (is_key item) sums ≡ None → sums' ≡ sums → AddsWeight sums item weight sums'
weight_left sums sums' item weight none same = λ before small holds.
    subst (λ (s : Sums). HoldsSums (after_one before item weight) s) (sym same)
    (kept before item weight sums (lookup_absent (is_key item) sums none) holds)

pub names_written : (sums sums' : Sums) (item : List ℕ) (w : ℕ) → sums' ≡ set_value (is_key item) sums w → names sums' ≡ names sums
names_written sums sums' item w wrote = ap names wrote ∙ names_set (is_key item) sums w

-- the total and the sum of one item
pub item_added : (sums sums' : Sums) (total total' : ℕ) (item : List ℕ) (weight : ℕ) → total' ≡ total + weight → total' < 2 ^ 64 → names sums' ≡ names sums → AddsWeight sums item weight sums' → AddsItems sums total ((item, weight) ∷ []) sums' total'
item_added sums sums' total total' item weight more small same adds = record {
  total_is = omega (arith, more);
  names_are = same;
  adds = λ before is holds. adds before (omega (arith, more, small, is)) holds;
}

-- ---- the items of records

-- the items of the records before those that are left were added
pub record HasSummedLines (chosen : WeighedRecord) (a : Sums) (t n : ℕ) (all left : List (List ℕ)) (b : Sums) (u m : ℕ) : Type 0 where
  pub done : List (List ℕ)
  pub parts : all ≡ done ++ left
  pub adds : AddsLines chosen a t done b u
  pub numbers : GrowsBy n (lines_of (splits_by chosen.item) done) m

pub sums_begun : (chosen : WeighedRecord) (a : Sums) (t n : ℕ) (all : List (List ℕ)) → HasSummedLines chosen a t n all all a t n
sums_begun chosen a t n all = record { done = []; parts = refl; adds = no_sums chosen a t; numbers = no_numbers chosen n }

-- one more record
pub sums_more : (chosen : WeighedRecord) (a b c : Sums) (t u v n m k : ℕ) (all left later : List (List ℕ)) (line : List ℕ) → HasSummedLines chosen a t n all left b u m → left ≡ line ∷ later → AddsItems b u (weighed_line chosen line) c v × (unweighed_line chosen line ≡ []) → IsNextCount chosen m line k → HasSummedLines chosen a t n all later c v k
sums_more chosen a b c t u v n m k all left later line so next more is = record {
  done = so.done ++ line ∷ [];
  parts = so.parts ∙ (ap (λ l. so.done ++ l) next ∙ sym (append_assoc so.done (line ∷ []) later));
  adds = all_sums chosen a b c t u v so.done (line ∷ []) so.adds (one_sum chosen b c u v line more);
  numbers = more_numbers chosen n m k so.done line so.numbers is;
}

-- all records
pub sums_all : (chosen : WeighedRecord) (a b : Sums) (t u n m : ℕ) (all left : List (List ℕ)) → HasSummedLines chosen a t n all left b u m → left ≡ [] → AddsLines chosen a t all b u
sums_all chosen a b t u n m all left so none = subst (λ l. AddsLines chosen a t l b u) (sym (so.parts ∙ (ap (λ l. so.done ++ l) none ∙ append-nil so.done))) so.adds

pub sums_numbered : (chosen : WeighedRecord) (a b : Sums) (t u n m : ℕ) (all left : List (List ℕ)) → HasSummedLines chosen a t n all left b u m → left ≡ [] → GrowsBy n (lines_of (splits_by chosen.item) all) m
sums_numbered chosen a b t u n m all left so none = subst (λ l. GrowsBy n (lines_of (splits_by chosen.item) l) m) (sym (so.parts ∙ (ap (λ l. so.done ++ l) none ∙ append-nil so.done))) so.numbers

-- a failure at one more record
pub sums_failed : (chosen : WeighedRecord) (a b : Sums) (t u n m number : ℕ) (all left later : List (List ℕ)) (line : List ℕ) (e : Failure) → HasSummedLines chosen a t n all left b u m → left ≡ line ∷ later → number ≡ min (m + 1) (2 ^ 64 - 1) → FailsRecord chosen u number line e → FailsLines chosen t n all e
sums_failed chosen a b t u n m number all left later line e so next is f =
    subst (λ l. FailsLines chosen t n l e) (sym (so.parts ∙ ap (λ l. so.done ++ l) next))
    (lines_later chosen t u n m so.done (line ∷ later) e so.adds.0.total_is so.adds.1 so.numbers (one_fails chosen u m number line later e is f))
