-- From the parts of an update to its step.
use Rattle.std.proofs.Common.{◌≡◌, ℕ, ◌+◌, ◌*◌, ◌%◌, ◌^◌, ◌<◌, ◌≤◌, Bool, true, false, ◌&&◌, List, length, refl, ap, sym, ◌∙◌, subst, arith, IsPermutation}
use Rattle.std.specs.Cmp.{IsEquivalence}
use Rattle.std.proofs.lemmas.Bool.{cases_lt, le-ltb}
use Rattle.std.proofs.lemmas.Bool.Decides.{nat_tests}
use Rattle.std.proofs.lemmas.List.Sorted.{length_permutation, IsPermutation-trans}
use Rattle.counter_table.specs.Tables.{Table, is_tracked, put, IsSampleMiddle}
use Rattle.sketch_frequencies.specs.State.{FrequentState, IsState, capacity, must_grow, must_double, state_of}
use Rattle.sketch_frequencies.specs.Steps.{Steps}
use Rattle.sketch_frequencies.specs.Growth.{MakesRoom, Adds}
use Rattle.sketch_frequencies.proofs.Cases.{by_cases}
use Rattle.sketch_frequencies.proofs.Puts.{length-put}
use Rattle.sketch_frequencies.proofs.UpdateStates.{adds_kept}
use Rattle.sketch_frequencies.proofs.Permutations.{put-permutation, purged-permutation, IsSampleMiddle-permutation}

-- the table must grow where all its places are taken and it may
pub grow_from_parts : {T : Type 0} (s : FrequentState T) → capacity s.size ≤ length s.counters → s.size < s.max_size → must_grow s ≡ true
grow_from_parts s full below = grind (arith, nat_tests, full, below)

-- not where a place is left
pub no_growth_with_room : {T : Type 0} (s : FrequentState T) → length s.counters < capacity s.size → must_grow s ≡ false
no_growth_with_room s room = grind (arith, nat_tests, room)

no_right : (a b : Bool) → b ≡ false → (a && b) ≡ false
no_right true b h = h
no_right false b h = refl

-- nor at its greatest size
pub no_growth_at_max : {T : Type 0} (s : FrequentState T) → s.size ≡ s.max_size → must_grow s ≡ false
no_growth_at_max s at = no_right _ _ (le-ltb s.size s.max_size (omega (arith, at)))

-- for a new item the table must double exactly where it must grow
pub growth_of_new : {T : Type 0} (eq : T → T → Bool) (s : FrequentState T) (x : T) → is_tracked eq s.counters x ≡ false → must_double eq s x ≡ must_grow s
growth_of_new eq s x new = rw new refl

-- a tracked item takes no place
pub length_tracked : {T : Type 0} (eq : T → T → Bool) (es : List (T × ℕ)) (x : T) (w : ℕ) → is_tracked eq es x ≡ true → length (put eq es x w) ≡ length es
length_tracked eq es x w there = grind (arith, length-put eq es x w, there)

-- a new one takes one
pub length_new : {T : Type 0} (eq : T → T → Bool) (es : List (T × ℕ)) (x : T) (w : ℕ) → is_tracked eq es x ≡ false → length (put eq es x w) ≡ length es + 1
length_new eq es x w new = grind (arith, length-put eq es x w, new)

-- an item takes one place at most
pub length_put : {T : Type 0} (eq : T → T → Bool) (es : List (T × ℕ)) (x : T) (w : ℕ) → length (put eq es x w) ≤ length es + 1
length_put eq es x w = by_tracked (is_tracked eq es x) refl where
  by_tracked : (b : Bool) → is_tracked eq es x ≡ b → length (put eq es x w) ≤ length es + 1
  by_tracked true there = omega (arith, length_tracked eq es x w there)
  by_tracked false new = omega (arith, length_new eq es x w new)

-- the step of an item for which there is room
pub step_with_room : {T : Type 0} (eq : T → T → Bool) (old new : FrequentState T) (x : T) (w : ℕ) → length old.counters < capacity old.size → Adds eq old x w new → Steps eq old x w new
step_with_room eq old new x w room adds = record {
  total = adds.total;
  max_size = adds.max_size;
  sample_size = adds.sample_size;
  key = adds.key;
  kept = adds.kept;
  doubled = λ over _. absurd (omega (arith, over, length_put eq old.counters x w, room));
  purge = λ over _. absurd (omega (arith, over, length_put eq old.counters x w, room));
}

-- from what the table's call says of a tracked item
pub adds_tracked : {T : Type 0} (eq : T → T → Bool) (old : FrequentState T) (x : T) (w : ℕ) (t : Table T) → IsState eq old → is_tracked eq old.counters x ≡ true → IsPermutation (put eq old.counters x w) t.entries → t.size ≡ old.size → t.key ≡ old.key → t.purges ≡ old.purges → Adds eq old x w (state_of t old.error (old.total + w) old.max_size old.sample_size)
adds_tracked eq old x w t ok there p size key purges = adds_kept eq old x w t p size key purges (omega (arith, length_permutation (put eq old.counters x w) t.entries p, length_tracked eq old.counters x w there, ok.few, size))

-- the step of a tracked item
pub step_tracked : {T : Type 0} (eq : T → T → Bool) (old new : FrequentState T) (x : T) (w : ℕ) → IsState eq old → is_tracked eq old.counters x ≡ true → Adds eq old x w new → Steps eq old x w new
step_tracked eq old new x w ok there adds =
    let same = length_tracked eq old.counters x w there in
    record {
      total = adds.total;
      max_size = adds.max_size;
      sample_size = adds.sample_size;
      key = adds.key;
      kept = adds.kept;
      doubled = λ over _. absurd (omega (arith, over, same, ok.few));
      purge = λ over _. absurd (omega (arith, over, same, ok.few));
    }

-- that of a new one, after room was made
module _ {T : Type 0} {eq : T → T → Bool} (laws : IsEquivalence eq) (old mid : FrequentState T) (x : T) (w : ℕ) (ok : IsState eq old) (new_item : is_tracked eq old.counters x ≡ false) (made : MakesRoom old mid) where
  put_made : IsPermutation (put eq old.counters x w) (put eq mid.counters x w)
  put_made = put-permutation laws old.counters mid.counters x w ok.distinct made.counters

  put_made_length : length (put eq mid.counters x w) ≡ length (put eq old.counters x w)
  put_made_length = length_permutation (put eq old.counters x w) (put eq mid.counters x w) put_made

  one_more : length (put eq old.counters x w) ≡ length old.counters + 1
  one_more = length_new eq old.counters x w new_item

  -- where the counters fit, the size stays
  stays : length (put eq old.counters x w) ≤ capacity old.size → mid.size ≡ old.size
  stays h = made.stays (no_growth_with_room old (omega (arith, h, one_more)))

  -- where they don't, it doubles
  grows : capacity old.size < length (put eq old.counters x w) → old.size < old.max_size → mid.size ≡ 2 * old.size
  grows h below = made.doubled (grow_from_parts old (omega (arith, h, one_more)) below)

  -- so a counter too many comes only at the greatest size
  pub room_made : capacity mid.size < length (put eq mid.counters x w) → mid.size ≡ mid.max_size
  room_made h =
      by_cases (cases_lt (capacity old.size) (length (put eq old.counters x w)))
      (λ over. by_cases (cases_lt old.size old.max_size)
      (λ below. absurd (omega (arith, grows over below, h, put_made_length, one_more, ok.few, ok.least)))
      (λ at. let same : old.size ≡ old.max_size = omega (arith, ok.within) in made.stays (no_growth_at_max old same) ∙ (same ∙ sym made.max_size)))
      (λ room. absurd (omega (arith, stays room, h, put_made_length)))

  pub step_from : (new : FrequentState T) → Adds eq mid x w new → Steps eq old x w new
  step_from new adds = record {
    total = adds.total ∙ ap (λ n. n + w) made.total;
    max_size = adds.max_size ∙ made.max_size;
    sample_size = adds.sample_size ∙ made.sample_size;
    key = adds.key ∙ made.key;
    kept = λ h.
        let same = stays h in
        let k = adds.kept (omega (arith, put_made_length, h, same)) in
        record { counters = IsPermutation-trans _ _ _ put_made k.counters; error = k.error ∙ made.error; size = k.size ∙ same; purges = k.purges ∙ made.purges };
    doubled = λ h below.
        let twice = grows h below in
        let k = adds.kept (omega (arith, put_made_length, one_more, ok.few, ok.least, twice)) in
        record { counters = IsPermutation-trans _ _ _ put_made k.counters; error = k.error ∙ made.error; size = k.size ∙ twice; purges = k.purges ∙ made.purges };
    purge = λ h at.
        let same = made.stays (no_growth_at_max old at) in
        let k = adds.purge (omega (arith, put_made_length, h, same)) in
        record {
          m = k.m;
          middle = subst (λ (n : ℕ). IsSampleMiddle n (put eq old.counters x w) k.m) made.sample_size (IsSampleMiddle-permutation mid.sample_size k.m (put eq old.counters x w) (put eq mid.counters x w) put_made k.middle);
          left = record { counters = IsPermutation-trans _ _ _ (purged-permutation k.m (put eq old.counters x w) (put eq mid.counters x w) put_made) k.left.counters; error = k.left.error ∙ ap (λ n. n + k.m) made.error; size = k.left.size ∙ same; purges = k.left.purges ∙ ap (λ (n : ℕ). (n + 1) % 2 ^ 64) made.purges };
        };
  }

-- the step of an item in a table of the greatest size
pub step_at_max : {T : Type 0} (eq : T → T → Bool) (old new : FrequentState T) (x : T) (w : ℕ) → old.size ≡ old.max_size → Adds eq old x w new → Steps eq old x w new
step_at_max eq old new x w at adds = record {
  total = adds.total;
  max_size = adds.max_size;
  sample_size = adds.sample_size;
  key = adds.key;
  kept = adds.kept;
  doubled = λ _ below. absurd (omega (arith, at, below));
  purge = λ over _. adds.purge over;
}

-- a table of the greatest size keeps it
pub size_stays : {T : Type 0} (eq : T → T → Bool) (old new : FrequentState T) (x : T) (w : ℕ) → Steps eq old x w new → old.size ≡ old.max_size → new.size ≡ new.max_size
size_stays eq old new x w step at =
    by_cases (cases_lt (capacity old.size) (length (put eq old.counters x w)))
    (λ over. (step.purge over at).left.size ∙ (at ∙ sym step.max_size))
    (λ room. (step.kept room).size ∙ (at ∙ sym step.max_size))
