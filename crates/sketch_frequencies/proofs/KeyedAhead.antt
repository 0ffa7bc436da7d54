-- Batches whose keys are hashed ahead: a failed update, and answers.
use Rattle.std.proofs.Common.{◌≡◌, ℕ, ◌+◌, ◌<◌, ◌≤◌, Bool, true, false, List, [], ◌∷◌, length, map, take, drop, set, refl, sym, ◌∙◌, ap, subst, arith, length-drop, length-set}
use Rattle.std.proofs.lemmas.List.{take_all}
use Rattle.std.specs.List.{AllZip}
use Rattle.std.proofs.lemmas.Bool.{false≢true}
use Rattle.std.specs.Prelude.{Result, Ok, Err, IsErrOf, IsTrue}
use Rattle.sketch_base.specs.Batches.{written_more, written_all}
use Rattle.sketch_base.specs.Errors.{ErrorValue, invalid_argument, no_memory}
use Rattle.sketch_base.specs.declared.fault.Fault.TheVariants.{WeightOverflow}
use Rattle.counter_table.specs.Keys.{count_by_key_of}
use Rattle.counter_table.specs.Tables.{is_tracked_by_key}
use Rattle.sketch_frequencies.specs.Bounds.{bounds_by_key, BoundWeight}
use Rattle.sketch_frequencies.specs.KeyedBatches.{StopsAtKey}
use Rattle.sketch_frequencies.specs.State.{FrequentState, Overflows, TotalHasRoom, estimate_by_key}
use Rattle.sketch_frequencies.specs.Stands.{IsExactOfFew}
use Rattle.sketch_frequencies.proofs.KeyedBatches.{HasAdded, added_until, key_at, left_after, none_left, answered_more}
use Rattle.sketch_frequencies.proofs.Estimates.{estimate_exact, estimate_item}
use Rattle.sketch_frequencies.specs.declared.item_bounds.ItemBounds.{ItemBounds}

untracked : (b : Bool) → (b ≡ true → false ≡ true) → b ≡ false
untracked false f = refl
untracked true f = absurd (false≢true (f refl))

abbrev error_or : {A E : Type 0} → E → Result A E → E
error_or other (Err e) = e
error_or other (Ok a) = other

-- what a failed update tells, which changed nothing
pub stops_at : {T : Type 0} (eq : T → T → Bool) (old mid new : FrequentState T) (keys left later : List (T → Bool)) (key : T → Bool) (e told : ErrorValue) → HasAdded eq old keys left mid → left ≡ key ∷ later → new ≡ mid → e ≡ told
    → (Overflows mid 1 → IsErrOf {T = Unit {0}} {E = ErrorValue} (Err told) (invalid_argument WeightOverflow)) → (TotalHasRoom mid 1 → told ≡ no_memory) → (TotalHasRoom mid 1 → is_tracked_by_key key mid.counters ≡ true → false ≡ true) → StopsAtKey eq old keys e new
stops_at eq old mid new keys left later key e told so next same is overflow memory succeeds =
    rw same (added_until eq old mid keys left later key e so next (λ over. is ∙ ap (error_or {A = Unit {0}} told) (overflow over)) (λ room. (is ∙ memory room, untracked (is_tracked_by_key key mid.counters) (succeeds room))))

-- ---- answers at an index, for the keys that are left

-- one more answer is written, and holds
pub record Written {A B : Type 0} (f : A → B) (R : A → B → Type 0) (all later : List A) (ys new : List B) (i n : ℕ) : Type 0 where
  pub there : i < length ys
  pub left : later ≡ drop n all
  pub value : take n new ≡ map f (take n all)
  pub holds : AllZip R (take n all) (take n new)
  pub long : length new ≡ length all

pub one_more : {A B : Type 0} (f : A → B) (R : A → B → Type 0) (all left later : List A) (ys : List B) (i : ℕ) (x : A) (y : B) → length ys ≡ length all → left ≡ drop i all → left ≡ x ∷ later → y ≡ f x → R x y
    → take i ys ≡ map f (take i all) → AllZip R (take i all) (take i ys) → Written f R all later ys (set ys i y) i (i + 1)
one_more f R all left later ys i x y long is next answer holds value so =
    let lt : i < length all = omega (arith, ap length (sym next ∙ is), length-drop i all) in
    let there : i < length ys = omega (arith, lt, long) in
    let at = key_at all left later i x is next in
    record {
      there = there;
      left = left_after all left later i x lt is next;
      value = ap (λ (b : _). take (i + 1) (set ys i b)) (answer ∙ ap f at) ∙ written_more f all ys i x lt there value;
      holds = answered_more R all ys i x y lt there at so holds;
      long = length-set ys i y ∙ long;
    }

-- two more
pub two_more : {A B : Type 0} (f : A → B) (R : A → B → Type 0) (all left later : List A) (ys : List B) (i : ℕ) (x z : A) (y w : B) → length ys ≡ length all → left ≡ drop i all → left ≡ x ∷ z ∷ later → y ≡ f x → w ≡ f z → R x y → R z w
    → take i ys ≡ map f (take i all) → AllZip R (take i all) (take i ys) → Written f R all later (set ys i y) (set (set ys i y) (i + 1) w) (i + 1) (i + 2)
two_more f R all left later ys i x z y w long is next first second holds_first holds_second value so =
    let one = one_more f R all left (z ∷ later) ys i x y long is next first holds_first value so in
    let two = one_more f R all (z ∷ later) later (set ys i y) (i + 1) z w one.long one.left refl second holds_second one.value one.holds in
    subst (λ (n : ℕ). Written f R all later (set ys i y) (set (set ys i y) (i + 1) w) (i + 1) n) (omega arith) two

-- there is room for the second
pub second_there : {A B : Type 0} (all left later : List A) (ys : List B) (i : ℕ) (x z : A) (y : B) → length ys ≡ length all → left ≡ drop i all → left ≡ x ∷ z ∷ later → i + 1 < length (set ys i y)
second_there all left later ys i x z y long is next = omega (arith, ap length (sym next ∙ is), length-drop i all, length-set ys i y, long)

-- if no key is left, all answers are written
pub all_written : {A B : Type 0} (f : A → B) (all left : List A) (ys : List B) (i : ℕ) → length ys ≡ length all → left ≡ drop i all → left ≡ [] → take i ys ≡ map f (take i all) → ys ≡ map f all
all_written f all left ys i long is none value =
    let end : length all ≤ i = none_left all left i is none in
    written_all f all ys i end (omega (arith, end, long)) value

-- and hold
pub all_hold : {A B : Type 0} (R : A → B → Type 0) (all left : List A) (ys : List B) (i : ℕ) → length ys ≡ length all → left ≡ drop i all → left ≡ [] → AllZip R (take i all) (take i ys) → AllZip R all ys
all_hold R all left ys i long is none so =
    let end : length all ≤ i = none_left all left i is none in
    subst (λ (l : List _). AllZip R l ys) (take_all i all end) (subst (λ (l : List _). AllZip R (take i all) l) (take_all i ys (omega (arith, end, long))) so)

-- ---- the bounds by a key hold

pub bounds_hold : {T : Type 0} (eq : T → T → Bool) (names : T → Bool) → ((x y : T) → IsTrue (names x) → names y ≡ eq x y) → (s : FrequentState T) (b : ItemBounds) → b ≡ bounds_by_key names s → (x : T) → IsTrue (names x) → BoundWeight eq s x b
bounds_hold eq names alike s b value x is = rw value (record {
  at_least = λ h encloses. omega (arith, count_by_key_of names alike s.counters x is, encloses.at_least x);
  at_most = λ h encloses. omega (arith, count_by_key_of names alike s.counters x is, encloses.at_most x);
  exact = estimate_exact eq s x _ (estimate_item names alike s x is);
})

-- and the estimate

pub estimate_holds : {T : Type 0} (eq : T → T → Bool) (names : T → Bool) → ((x y : T) → IsTrue (names x) → names y ≡ eq x y) → (s : FrequentState T) (n : ℕ) → n ≡ estimate_by_key names s → (x : T) → IsTrue (names x) → IsExactOfFew eq s x n
estimate_holds eq names alike s n value x is = estimate_exact eq s x n (value ∙ estimate_item names alike s x is)
