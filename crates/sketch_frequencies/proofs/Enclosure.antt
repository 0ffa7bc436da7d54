-- A step keeps what a sketch says of its history.
use Rattle.std.proofs.Common.{◌≡◌, ℕ, ◌+◌, ◌<◌, ◌≤◌, Bool, cond, length, ap, ◌∙◌, arith, IsPermutation}
use Rattle.std.proofs.lemmas.Bool.{cases_lt}
use Rattle.std.specs.Cmp.{IsEquivalence}
use Rattle.std.specs.Map.{keys_of}
use Rattle.std.proofs.lemmas.Map.Made.{length-le_from_is_member}
use Rattle.std.proofs.lemmas.Map.Entries.{length-keys_of}
use Rattle.counter_table.specs.Tables.{count_of, put, purged}
use Rattle.sketch_frequencies.specs.History.{FrequentHistory, own_size, min_size, own_sample, min_sample}
use Rattle.sketch_frequencies.specs.History.FrequentHistory.{New, Update, Merge, Reset, Restored}
use Rattle.sketch_frequencies.specs.State.{FrequentState, IsState, capacity, max_sample_size}
use Rattle.sketch_frequencies.specs.Stands.{Encloses, StandsFor, HasFewItems}
use Rattle.sketch_frequencies.specs.Steps.{Steps}
use Rattle.sketch_frequencies.proofs.Cases.{by_cases}
use Rattle.sketch_frequencies.proofs.Puts.{count_of-put, IsDistinct-put, positive-put, positive_from_tracked}
use Rattle.sketch_frequencies.proofs.Permutations.{count_of-permutation, count_of-purged, IsDistinct-purged}

-- the counts after a step, at each item
pub record Counted {T : Type 0} (eq : T → T → Bool) (old : FrequentState T) (x : T) (w : ℕ) (new : FrequentState T) : Type 0 where
  pub low : (y : T) → count_of eq new.counters y ≤ count_of eq old.counters y + cond (eq x y) w 0
  pub high : (y : T) → count_of eq old.counters y + cond (eq x y) w 0 + old.error ≤ count_of eq new.counters y + new.error

pub counted : {T : Type 0} {eq : T → T → Bool} → IsEquivalence eq → (old new : FrequentState T) (x : T) (w : ℕ) → IsState eq old → Steps eq old x w new → Counted eq old x w new
counted {eq = eq} laws old new x w ok step =
    let c1 = put eq old.counters x w in
    let apart = IsDistinct-put laws old.counters x w ok.distinct in
    let added = λ (y : _). count_of-put laws old.counters x w y in
    let moved = λ (p : IsPermutation c1 new.counters) (y : _). count_of-permutation laws c1 new.counters y apart p in
    by_cases (cases_lt (capacity old.size) (length c1))
    (λ over. by_cases (cases_lt old.size old.max_size)
    (λ below. let d = step.doubled over below in record { low = λ y. grind (arith, moved d.counters y, added y); high = λ y. grind (arith, moved d.counters y, added y, d.error) })
    (λ at.
    let d = step.purge over (omega (arith, ok.within)) in
    let left = λ (y : _). count_of-permutation laws (purged d.m c1) new.counters y (IsDistinct-purged laws d.m c1 apart) d.left.counters ∙ count_of-purged laws d.m c1 y apart in
    record { low = λ y. grind (arith, left y, added y); high = λ y. grind (arith, left y, added y, d.left.error) }))
    (λ room. let d = step.kept room in record { low = λ y. grind (arith, moved d.counters y, added y); high = λ y. grind (arith, moved d.counters y, added y, d.error) })

-- no size that took part is greater than the sketch's own
pub min_le_own : {T : Type 0} (h : FrequentHistory T) → min_size h ≤ own_size h
min_le_own (New m n) = omega arith
min_le_own (Update h x w) = min_le_own h
min_le_own (Merge h g) = omega (arith, min_le_own h)
min_le_own (Reset h) = omega arith
min_le_own (Restored h) = min_le_own h

-- nor is any sample greater than the sketch's own, where it is one that the sketch may have
pub sample_le_own : {T : Type 0} (h : FrequentHistory T) (n : ℕ) → n ≤ min_sample h → n ≤ max_sample_size (own_size h) → n ≤ own_sample h
sample_le_own (New m k) n a b = a
sample_le_own (Update h x w) n a b = sample_le_own h n a b
sample_le_own (Merge h g) n a b = sample_le_own h n (omega (arith, a)) b
sample_le_own (Reset h) n a b = a
sample_le_own (Restored h) n a b = b

-- so a purge samples no fewer counters than the tail budget needs
pub sample_enough : {T : Type 0} {eq : T → T → Bool} (s : FrequentState T) (h : FrequentHistory T) → StandsFor eq s h → min_sample h ≤ s.sample_size
sample_enough s h stands = omega (arith, sample_le_own h (min_sample h) (omega arith) (omega (arith, stands.encloses.sample.greatest, min_le_own h)), stands.sample_size)

-- few items after an update are few before it
few_before : {T : Type 0} {eq : T → T → Bool} (h : FrequentHistory T) (x : T) (w : ℕ) → HasFewItems eq (Update h x w) → HasFewItems eq h
few_before h x w few = record { items = few.items; fit = few.fit; cover = λ y p. few.cover y (omega (arith, p)) }

-- every tracked item has a true weight above 0, so it is covered
exact_after : {T : Type 0} {eq : T → T → Bool} → IsEquivalence eq → (old new : FrequentState T) (x : T) (w : ℕ) → 0 < w → IsState eq old → Steps eq old x w new → (h : FrequentHistory T) → Encloses eq old h → HasFewItems eq (Update h x w) → new.error ≡ 0
exact_after {eq = eq} laws old new x w pos ok step h s few =
    let c1 = put eq old.counters x w in
    let apart = IsDistinct-put laws old.counters x w ok.distinct in
    let positive = positive-put eq old.counters x w pos ok.positive in
    let none : old.error ≡ 0 = s.exact (few_before h x w few) in
    let true_of = λ (y : _). count_of-put laws old.counters x w y in
    let fits : length (keys_of c1) ≤ length few.items = length-le_from_is_member laws (keys_of c1) few.items apart (λ q there. few.cover q (grind (arith, positive_from_tracked eq c1 q positive there, true_of q, s.at_least q))) in
    by_cases (cases_lt (capacity old.size) (length c1))
    (λ over. by_cases (cases_lt old.size old.max_size)
    (λ below. omega (arith, (step.doubled over below).error, none))
    (λ at. absurd (omega (arith, over, at, fits, few.fit, s.max_size, ok.within, min_le_own h, length-keys_of c1))))
    (λ room. omega (arith, (step.kept room).error, none))

encloses_after : {T : Type 0} {eq : T → T → Bool} → IsEquivalence eq → (old new : FrequentState T) (x : T) (w : ℕ) → 0 < w → IsState eq old → Steps eq old x w new → (h : FrequentHistory T) → Encloses eq old h → Encloses eq new (Update h x w)
encloses_after {eq = eq} laws old new x w pos ok step h s =
    let now = counted laws old new x w ok step in
    record {
      max_size = step.max_size ∙ s.max_size;
      total = step.total ∙ ap (λ n. n + w) s.total;
      at_least = λ y. omega (arith, now.low y, s.at_least y);
      at_most = λ y. omega (arith, now.high y, s.at_most y);
      exact = λ few. exact_after laws old new x w pos ok step h s few;
      least = s.least;
      power = s.power;
      sample = s.sample;
    }

pub stands_after : {T : Type 0} {eq : T → T → Bool} → IsEquivalence eq → (old new : FrequentState T) (x : T) (w : ℕ) → 0 < w → IsState eq old → Steps eq old x w new → (h : FrequentHistory T) → StandsFor eq old h → StandsFor eq new (Update h x w)
stands_after laws old new x w pos ok step h s = record {
  encloses = encloses_after laws old new x w pos ok step h s.encloses;
  sample_size = step.sample_size ∙ s.sample_size;
}
