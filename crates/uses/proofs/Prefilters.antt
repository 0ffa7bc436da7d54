-- Images of filters that carry keys, and their union.
use Rattle.std.proofs.Common.{◌≡◌, ℕ, Bool, true, false, cond, ◌||◌, List, [], ◌∷◌, ◌++◌, filter, map, All, Result, Ok, Err, IfOk, ◌+◌, ◌*◌, ◌<◌, length, get_or, take, drop, inl, inr, append_assoc, refl, sym, ap, subst, ◌∙◌}
use Rattle.std.proofs.lemmas.List.{map_more, map-append, take-append-drop}
use Rattle.std.proofs.lemmas.List.Elements.{All-head, All-tail, All-push}
use Rattle.std.proofs.lemmas.Slice.Eq.{bytes_eq-Decides}
use Rattle.std.specs.List.{list_any, AllZip}
use Rattle.std.specs.Str.{bytes_eq}
use Rattle.sketch_base.specs.Checks.{IsImageRefusal}
use Rattle.sketch_base.specs.Errors.{ErrorValue}
use Rattle.sketch_bloom.specs.Image.{IsSpelled, value_at, early_fault_within, first_fault_within}
use Rattle.sketch_bloom.specs.Laws.{SpelledIsImage, InsertedIsContained}
use Rattle.sketch_bloom.specs.State.{FilterState, IsCompatible, contains_item, inserted, all_inserted, united}
use Rattle.uses.specs.Prefilters.{CarriesKeys, joins, PassesEach, PassesAll, IsPart, all_united, UnitesAll, IsPartRefusal, RefusesOne, joined}
use Rattle.uses.proofs.Sets.{inserted_keeps, united_keeps, united_gains}

-- what is contained stays so while more is inserted
all_inserted_keep : (s : FilterState) (keys : List (List ℕ)) (key : List ℕ) → contains_item s key ≡ true
    → contains_item (all_inserted s keys) key ≡ true
all_inserted_keep s [] key e = e
all_inserted_keep s (k ∷ ks) key e = all_inserted_keep (inserted s k) ks key (inserted_keeps s k key e)

-- each item that was inserted is contained
pub all_inserted_contain : InsertedIsContained → (s : FilterState) (keys : List (List ℕ)) (key : List ℕ)
    → list_any (bytes_eq key) keys ≡ true → contains_item (all_inserted s keys) key ≡ true
all_inserted_contain law s [] key any = absurd (cc any)
all_inserted_contain law s (k ∷ ks) key any =
    elim (bytes_eq key k) as (λ b. bytes_eq key k ≡ b → (b || list_any (bytes_eq key) ks) ≡ true → contains_item (all_inserted (inserted s k) ks) key ≡ true) [
      | true ↦ λ e h.
          let same : key ≡ k = (bytes_eq-Decides key k).0 e in
          all_inserted_keep (inserted s k) ks key (subst (λ (x : List ℕ). contains_item (inserted s k) x ≡ true) (sym same) (law s k))
      | false ↦ λ e h. all_inserted_contain law (inserted s k) ks key h
    ] refl any

-- so the image of a filter of keys carries them
pub carries : InsertedIsContained → (image : List ℕ) (s : FilterState) (keys : List (List ℕ))
    → IsSpelled image (all_inserted s keys) → CarriesKeys image keys
carries law image s keys spelled = record {
  carrier = all_inserted s keys;
  spelled = spelled;
  contained = all_inserted_contain law s keys;
}

-- what is contained stays so while filters are united into it
all_united_keep : (s : FilterState) (images : List (List ℕ)) (key : List ℕ) → contains_item s key ≡ true
    → contains_item (all_united s images) key ≡ true
all_united_keep s [] key e = e
all_united_keep s (image ∷ images) key e = all_united_keep (united s (value_at image)) images key (united_keeps s (value_at image) key e)

-- parts of a filter are parts of one of its shape
parts_of : (s t : FilterState) (images : List (List ℕ)) → t.num_words ≡ s.num_words → t.num_hashes ≡ s.num_hashes → t.seed ≡ s.seed
    → All (IsPart s) images → All (IsPart t) images
parts_of s t images w h e parts = λ k d lt.
    let p = parts k d lt in
    record {
      is_image = p.is_image;
      compatible = record { num_words = w ∙ p.compatible.num_words; num_hashes = h ∙ p.compatible.num_hashes; seed = e ∙ p.compatible.seed };
    }

-- the filter that an image carries is the one that it says
carried : SpelledIsImage → (image : List ℕ) (keys : List (List ℕ)) → (c : CarriesKeys image keys) → c.carrier ≡ value_at image
carried law image keys c = (law image c.carrier c.spelled).value

-- each key of a part passes the union
pub union_passes : SpelledIsImage → (s : FilterState) (images : List (List ℕ)) (parts : List (List (List ℕ)))
    → All (IsPart s) images → AllZip CarriesKeys images parts → PassesEach parts (all_united s images)
union_passes law s [] [] good zip key any = absurd (cc any)
union_passes law s [] (keys ∷ parts) good zip key any = absurd zip
union_passes law s (image ∷ images) [] good zip key any = absurd zip
union_passes law s (image ∷ images) (keys ∷ parts) good zip key any =
    let t = united s (value_at image) in
    elim (list_any (bytes_eq key) keys) as (λ b. list_any (bytes_eq key) keys ≡ b → (b || joins parts key) ≡ true → contains_item (all_united t images) key ≡ true) [
      | true ↦ λ e h.
          let has : contains_item zip.0.carrier key ≡ true = zip.0.contained key e in
          let here : contains_item (value_at image) key ≡ true = subst (λ (f : FilterState). contains_item f key ≡ true) (carried law image keys zip.0) has in
          all_united_keep t images key (united_gains s (value_at image) key (All-head (IsPart s) image images good).compatible here)
      | false ↦ λ e h. union_passes law t images parts (parts_of s t images refl refl refl (All-tail (IsPart s) image images good)) zip.1 key h
    ] refl any

-- rows that pass a test where they join are still there where they join
pub joined_kept : {R : Type 0} (key : R → List ℕ) (passes : List ℕ → Bool) (parts : List (List (List ℕ)))
    → ((bytes : List ℕ) → joins parts bytes ≡ true → passes bytes ≡ true) → (rows : List R)
    → joined key parts (filter (λ row. passes (key row)) rows) ≡ joined key parts rows
joined_kept key passes parts law [] = refl
joined_kept {R} key passes parts law (row ∷ rows) =
    elim (passes (key row)) as (λ b. passes (key row) ≡ b → joined key parts (cond b (row ∷ filter (λ (r : R). passes (key r)) rows) (filter (λ (r : R). passes (key r)) rows)) ≡ cond (joins parts (key row)) (row ∷ joined key parts rows) (joined key parts rows)) [
      | true ↦ λ e. ap (λ (rs : List R). cond (joins parts (key row)) (row ∷ rs) rs) (joined_kept key passes parts law rows)
      | false ↦ λ e.
          elim (joins parts (key row)) as (λ b. joins parts (key row) ≡ b → joined key parts (filter (λ (r : R). passes (key r)) rows) ≡ cond b (row ∷ joined key parts rows) (joined key parts rows)) [
            | true ↦ λ j. let p : passes (key row) ≡ true = law (key row) j in absurd (cc)
            | false ↦ λ j. joined_kept key passes parts law rows
          ] refl
    ] refl

pub carries_either : InsertedIsContained → {X E : Type 0} (bytes : X → List ℕ) (s : FilterState) (keys : List (List ℕ)) (r : Result X E)
    → IfOk r (λ image. IsSpelled (bytes image) (all_inserted s keys)) → IfOk r (λ image. CarriesKeys (bytes image) keys)
carries_either law bytes s keys (Ok x) spelled = carries law (bytes x) s keys spelled
carries_either law bytes s keys (Err e) spelled = spelled

-- ---- images that are united one after another

-- shape and seed stay
shape_stays : (s : FilterState) (images : List (List ℕ))
    → ((all_united s images).num_words ≡ s.num_words) × ((all_united s images).num_hashes ≡ s.num_hashes) × ((all_united s images).seed ≡ s.seed)
shape_stays s [] = (refl, refl, refl)
shape_stays s (image ∷ images) = shape_stays (united s (value_at image)) images

same_shape : (s t : FilterState) (images : List (List ℕ)) → t ≡ all_united s images
    → (t.num_words ≡ s.num_words) × (t.num_hashes ≡ s.num_hashes) × (t.seed ≡ s.seed)
same_shape s t images e = let e' = shape_stays s images in (ap (λ (f : FilterState). f.num_words) e ∙ e'.0, ap (λ (f : FilterState). f.num_hashes) e ∙ e'.1, ap (λ (f : FilterState). f.seed) e ∙ e'.2)

compatible_of : (s t f : FilterState) → (t.num_words ≡ s.num_words) × (t.num_hashes ≡ s.num_hashes) × (t.seed ≡ s.seed)
    → IsCompatible t f → IsCompatible s f
compatible_of s t f e c = record { num_words = sym e.0 ∙ c.num_words; num_hashes = sym e.1 ∙ c.num_hashes; seed = sym e.2 ∙ c.seed }

united_push : (s : FilterState) (images : List (List ℕ)) (image : List ℕ)
    → all_united s (images ++ image ∷ []) ≡ united (all_united s images) (value_at image)
united_push s [] image = refl
united_push s (i ∷ images) image = united_push (united s (value_at i)) images image

-- one image more
pub unites_more : (old new newer : FilterState) (images : List (List ℕ)) (image : List ℕ)
    → UnitesAll old images new → IsPart new image → newer ≡ united new (value_at image)
    → UnitesAll old (images ++ image ∷ []) newer
unites_more old new newer images image u p e = record {
  parts = All-push (IsPart old) images image u.parts (record { is_image = p.is_image; compatible = compatible_of old new (value_at image) (same_shape old new images u.union) p.compatible });
  union = e ∙ ap (λ (t : FilterState). united t (value_at image)) u.union ∙ sym (united_push old images image);
}

-- a refusal speaks of shape and seed alone
part_refusal_of : (s t : FilterState) (image : List ℕ) (e : ErrorValue)
    → (t.num_words ≡ s.num_words) × (t.num_hashes ≡ s.num_hashes) × (t.seed ≡ s.seed)
    → IsPartRefusal t image e → IsPartRefusal s image e
part_refusal_of s t image e same (inl fault) =
    inl (subst (λ (n : ℕ). IsImageRefusal (early_fault_within (8 * n) image) (first_fault_within (8 * n) image) e) same.0 fault)
part_refusal_of s t image e same (inr mismatch) =
    inr (mismatch.0, mismatch.1, λ c. mismatch.2 (compatible_of t s (value_at image) (sym same.0, sym same.1, sym same.2) c))

-- at a place of the images
pub unites_at : {X : Type 0} (bytes : X → List ℕ) (xs : List X) (i : ℕ) (x : X) → i < length xs → x ≡ get_or xs i x
    → (old new newer : FilterState) → UnitesAll old (map bytes (take i xs)) new → IsPart new (bytes x) → newer ≡ united new (value_at (bytes x))
    → UnitesAll old (map bytes (take (i + 1) xs)) newer
unites_at bytes xs i x lt e old new newer u p n =
    subst (λ (l : List (List ℕ)). UnitesAll old l newer)
    (ap (λ y. map bytes (take i xs) ++ bytes y ∷ []) e ∙ sym (map_more bytes xs i x lt))
    (unites_more old new newer (map bytes (take i xs)) (bytes x) u p n)

pub refuses_at : {X : Type 0} (bytes : X → List ℕ) (xs : List X) (i : ℕ) (x : X) → i < length xs → x ≡ get_or xs i x
    → (old new : FilterState) (e : ErrorValue) → UnitesAll old (map bytes (take i xs)) new → IsPartRefusal new (bytes x) e
    → RefusesOne old (map bytes xs) e
refuses_at bytes xs i x lt e old new err u refusal = record {
  before = map bytes (take i xs);
  refused = bytes x;
  behind = map bytes (drop (i + 1) xs);
  whole =
      ap (λ l. map bytes l) (sym (take-append-drop (i + 1) xs)) ∙ map-append bytes (take (i + 1) xs) (drop (i + 1) xs)
      ∙ ap (λ l. l ++ map bytes (drop (i + 1) xs)) (map_more bytes xs i x lt ∙ ap (λ y. map bytes (take i xs) ++ bytes y ∷ []) (sym e))
      ∙ append_assoc (map bytes (take i xs)) (bytes x ∷ []) (map bytes (drop (i + 1) xs));
  parts = u.parts;
  refusal = part_refusal_of old new (bytes x) err (same_shape old new (map bytes (take i xs)) u.union) refusal;
}

-- all were united
pub passes_all : SpelledIsImage → (s new : FilterState) (images : List (List ℕ)) → UnitesAll s images new → PassesAll images new
passes_all law s new images u parts zip =
    subst (λ (t : FilterState). PassesEach parts t) (sym u.union) (union_passes law s images parts u.parts zip)
