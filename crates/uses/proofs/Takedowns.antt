-- What a list of entries refuses.
use Rattle.std.proofs.Common.{◌≡◌, ℕ, ◌*◌, Bool, true, false, ◌||◌, not, List, [], ◌∷◌, ◌++◌, fold, Result, Ok, Err, IsOk, IfErr, OnOk, refl, sym, ap, subst, ◌∙◌}
use Rattle.std.proofs.lemmas.Bool.{and_from}
use Rattle.std.proofs.lemmas.Cmp.{nat_cmp_total}
use Rattle.std.proofs.lemmas.List.Sums.{fold_push, fold-append}
use Rattle.std.specs.FinSet as set
use Rattle.std.specs.List.{list_any}
use Rattle.std.specs.Ordering.{nat_cmp}
use Rattle.std.specs.Str.{bytes_eq}
use Rattle.sketch_bloom.specs.BitSet.{Numbers}
use Rattle.sketch_bloom.specs.History.{BloomHistory, words_of, hashes_of, seed_of, all_inserted_after, denoted_set}
use Rattle.sketch_bloom.specs.History.BloomHistory.{New, Insert, Difference}
use Rattle.sketch_bloom.specs.Laws.{InsertedIsContained, DifferenceTakesAway, DifferenceAddsNothing}
use Rattle.sketch_bloom.specs.Positions.{positions_of}
use Rattle.sketch_bloom.specs.Stands.{StandsFor, Extends, ExtendsBoth}
use Rattle.sketch_bloom.specs.State.{FilterState, IsFilterState, IsCompatible, contains_item, item_positions, inserted, all_inserted, cleared, subtracted}
use Rattle.uses.specs.Takedowns.{Entry, after_entry, history_of, Follows, takes_back, IsSpared, SaysWhatFollows, RefusesStill}
use Rattle.uses.specs.Takedowns.Entry.{Refused, TakenBack}
use Rattle.uses.proofs.Prefilters.{all_inserted_contain}
use Rattle.uses.proofs.Sets.{or_left, or_right}

neither : (a b : Bool) → (a || b) ≡ false → (a ≡ false) × (b ≡ false)
neither true b e = absurd (cc e)
neither false b e = (refl, e)

-- ---- histories

-- the positions of an item in a filter of this history
abbrev positions_in : BloomHistory → List ℕ → Numbers
positions_in h item = positions_of (64 * words_of h) (hashes_of h) (seed_of h) item

-- a position is denoted after items were inserted where it was before, or is one of theirs
all_inserted_has : (h : BloomHistory) (items : List (List ℕ)) (p : ℕ)
    → set.contains (denoted_set h) p ≡ false → list_any (λ item. set.contains (positions_in h item) p) items ≡ false
    → set.contains (denoted_set (all_inserted_after h items)) p ≡ false
all_inserted_has h [] p out apart = out
all_inserted_has h (item ∷ items) p out apart =
    let parts = neither (set.contains (positions_in h item) p) (list_any (λ i. set.contains (positions_in h i) p) items) apart in
    all_inserted_has (Insert h item) items p
    (set.contains-union nat_cmp_total (denoted_set h) (positions_in h item) p ∙ ap (λ b. b || set.contains (positions_in h item) p) out ∙ parts.0)
    parts.1

-- the history has the shape and the seed of the filter
abbrev Same : FilterState → BloomHistory → Type 0
Same s h = (words_of h ≡ s.num_words) × (hashes_of h ≡ s.num_hashes) × (seed_of h ≡ s.seed)

-- so an item has the same positions in both
same_positions : (s : FilterState) (h : BloomHistory) (item : List ℕ) → Same s h → positions_in h item ≡ item_positions s item
same_positions s h item same = λ i. positions_of (64 * same.0 i) (same.1 i) (same.2 i) item

-- and no entry changes shape or seed
same_after : (s : FilterState) (h : BloomHistory) (entries : List Entry) → Same s h → Same s (fold after_entry h entries)
same_after s h [] same = same
same_after s h (Refused item ∷ entries) same = same_after s (Insert h item) entries same
same_after s h (TakenBack items ∷ entries) same =
    same_after s (Difference h (all_inserted_after (New (words_of h) (hashes_of h) (seed_of h)) items)) entries same

-- a position that is denoted stays so, where no entry takes it back
stays : (s : FilterState) (p : ℕ) (h : BloomHistory) (entries : List Entry) → Same s h
    → list_any (takes_back s p) entries ≡ false → set.contains (denoted_set h) p ≡ true
    → set.contains (denoted_set (fold after_entry h entries)) p ≡ true
stays s p h [] same spared has = has
stays s p h (Refused item ∷ entries) same spared has =
    stays s p (Insert h item) entries same spared
    (set.contains-union nat_cmp_total (denoted_set h) (positions_in h item) p ∙ or_left (set.contains (denoted_set h) p) (set.contains (positions_in h item) p) has)
stays s p h (TakenBack items ∷ entries) same spared has =
    let start = New (words_of h) (hashes_of h) (seed_of h) in
    let batch = all_inserted_after start items in
    let parts = neither (takes_back s p (TakenBack items)) (list_any (takes_back s p) entries) spared in
    let apart : list_any (λ (item : List ℕ). set.contains (positions_in start item) p) items ≡ false =
    (λ i. list_any (λ (item : List ℕ). set.contains (positions_of (64 * same.0 i) (same.1 i) (same.2 i) item) p) items) ∙ parts.0 in
    let out : set.contains (denoted_set batch) p ≡ false = all_inserted_has start items p (set.contains-empty nat_cmp p) apart in
    stays s p (Difference h batch) entries same parts.1
    (set.contains-difference nat_cmp_total (denoted_set h) (denoted_set batch) p ∙ and_from (set.contains (denoted_set h) p) (not (set.contains (denoted_set batch) p)) has (ap not out))

-- an item that was refused, and spared since, has all its positions in the set
spared_stays : (s : FilterState) (item : List ℕ) (before since : List Entry) → IsSpared s item since
    → set.is_subset (item_positions s item) (denoted_set (history_of s (before ++ Refused item ∷ since))) ≡ true
spared_stays s item before since spared =
    let start = New s.num_words s.num_hashes s.seed in
    let h = fold after_entry start before in
    let same : Same s h = same_after s start before (refl, refl, refl) in
    subst (λ (g : BloomHistory). set.is_subset (item_positions s item) (denoted_set g) ≡ true) (sym (fold-append after_entry start before (Refused item ∷ since)))
    (set.contains-is_subset nat_cmp_total (item_positions s item) (denoted_set (fold after_entry (Insert h item) since)) (λ p has.
    let here : set.contains (positions_in h item) p ≡ true = ap (λ (t : Numbers). set.contains t p) (same_positions s h item same) ∙ has in
    stays s p (Insert h item) since same (spared p has)
    (set.contains-union nat_cmp_total (denoted_set h) (positions_in h item) p ∙ or_right (set.contains (denoted_set h) p) (set.contains (positions_in h item) p) here)))

-- ---- what a list answers

pub says : (s : FilterState) (item : List ℕ) (answer : Bool) → answer ≡ contains_item s item → SaysWhatFollows s item answer
says s item answer e entries f =
    let same : answer ≡ set.is_subset (item_positions s item) (denoted_set (history_of s entries)) =
    e ∙ ap (λ (t : Numbers). set.is_subset (item_positions s item) t) f.stands.set in
    (λ refused. sym same ∙ refused, λ held. same ∙ held)

pub refuses_still : (s : FilterState) (item : List ℕ) (answer : Bool) → answer ≡ contains_item s item → RefusesStill s item answer
refuses_still s item answer e before since f spared =
    (says s item answer e (before ++ Refused item ∷ since) f).1 (spared_stays s item before since spared)

-- ---- what a call does

follows_more : (old new : FilterState) (entry : Entry) → new.num_words ≡ old.num_words → new.num_hashes ≡ old.num_hashes → new.seed ≡ old.seed
    → ((h : BloomHistory) → StandsFor old h → StandsFor new (after_entry h entry))
    → (entries : List Entry) → Follows old entries → Follows new (entries ++ entry ∷ [])
follows_more old new entry w n e more entries f = record {
  stands =
      subst (λ (start : BloomHistory). StandsFor new (fold after_entry start (entries ++ entry ∷ []))) (λ i. New (sym w i) (sym n i) (sym e i))
      (subst (λ (g : BloomHistory). StandsFor new g) (sym (fold_push after_entry (New old.num_words old.num_hashes old.seed) entries entry))
      (more (history_of old entries) f.stands));
}

pub follows_inserted : (old new : FilterState) (item : List ℕ) → new ≡ inserted old item → Extends old new (λ h. Insert h item)
    → (entries : List Entry) → Follows old entries → Follows new (entries ++ Refused item ∷ [])
follows_inserted old new item is stands =
    follows_more old new (Refused item) (ap (λ (s : FilterState). s.num_words) is) (ap (λ (s : FilterState). s.num_hashes) is) (ap (λ (s : FilterState). s.seed) is) stands

pub follows_without : (old cleared' batch new : FilterState) (items : List (List ℕ)) → cleared' ≡ cleared old
    → Extends cleared' batch (λ h. all_inserted_after h items) → ExtendsBoth old batch new Difference → new ≡ subtracted old batch
    → (entries : List Entry) → Follows old entries → Follows new (entries ++ TakenBack items ∷ [])
follows_without old cleared' batch new items e inserts differs is =
    follows_more old new (TakenBack items) (ap (λ (s : FilterState). s.num_words) is) (ap (λ (s : FilterState). s.num_hashes) is) (ap (λ (s : FilterState). s.seed) is)
    (λ h stands.
    let start = New (words_of h) (hashes_of h) (seed_of h) in
    let empty : StandsFor (cleared old) start = record { num_words = stands.num_words; num_hashes = stands.num_hashes; seed = stands.seed; set = refl } in
    differs h (all_inserted_after start items) stands (inserts start (subst (λ (s : FilterState). StandsFor s start) (sym e) empty)))

-- a batch has the shape and the seed of its list
batch_shape : (s t : FilterState) (items : List (List ℕ)) → IsCompatible s t → IsCompatible s (all_inserted t items)
batch_shape s t [] same = same
batch_shape s t (item ∷ items) same = batch_shape s (inserted t item) items (record { num_words = same.num_words; num_hashes = same.num_hashes; seed = same.seed })

pub batch_fits : (s batch : FilterState) (items : List (List ℕ)) → batch ≡ all_inserted (cleared s) items → IsCompatible s batch
batch_fits s batch items e =
    subst (λ (t : FilterState). IsCompatible s t) (sym e)
    (batch_shape s (cleared s) items (record { num_words = refl; num_hashes = refl; seed = refl }))

pub gone_either : {E : Type 0} → InsertedIsContained → DifferenceTakesAway → (s batch new : FilterState) (items : List (List ℕ)) (r : Result (Unit {0}) E)
    → batch ≡ all_inserted (cleared s) items → IsFilterState batch → OnOk r (new ≡ subtracted s batch)
    → OnOk r ((item : List ℕ) → list_any (bytes_eq item) items ≡ true → contains_item new item ≡ false)
gone_either contained takes s batch new items (Ok x) e state is = λ item any.
    let has : contains_item batch item ≡ true = subst (λ (t : FilterState). contains_item t item ≡ true) (sym e) (all_inserted_contain contained (cleared s) items item any) in
    subst (λ (t : FilterState). contains_item t item ≡ false) (sym is) (takes s batch item state (batch_fits s batch items e) has)
gone_either contained takes s batch new items (Err x) e state is = tt

-- so a difference with one is not refused
pub never_refused : {A E : Type 0} (P : E → Type 0) (r : Result A E) → IsOk r → IfErr r P
never_refused P (Ok x) ok = tt
never_refused P (Err e) ok = absurd (cc ok)

pub follows_either : {E : Type 0} (old cleared' batch new : FilterState) (items : List (List ℕ)) (r : Result (Unit {0}) E) → cleared' ≡ cleared old
    → Extends cleared' batch (λ h. all_inserted_after h items) → OnOk r (ExtendsBoth old batch new Difference) → OnOk r (new ≡ subtracted old batch)
    → OnOk r ((entries : List Entry) → Follows old entries → Follows new (entries ++ TakenBack items ∷ []))
follows_either old cleared' batch new items (Ok x) e inserts differs is = follows_without old cleared' batch new items e inserts differs is
follows_either old cleared' batch new items (Err x) e inserts differs is = tt

-- nothing is contained that was not
pub no_more_either : {E : Type 0} → DifferenceAddsNothing → (s batch new : FilterState) (r : Result (Unit {0}) E) → OnOk r (new ≡ subtracted s batch)
    → OnOk r ((item : List ℕ) → contains_item new item ≡ true → contains_item s item ≡ true)
no_more_either law s batch new (Ok x) is = λ item has. law s batch item (subst (λ (t : FilterState). contains_item t item ≡ true) is has)
no_more_either law s batch new (Err e) is = tt
