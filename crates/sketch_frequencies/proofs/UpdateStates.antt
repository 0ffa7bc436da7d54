-- What an update leaves is a state.
use Rattle.std.proofs.Common.{◌≡◌, ℕ, ◌+◌, ◌-◌, ◌*◌, ◌%◌, ◌^◌, ◌<◌, ◌≤◌, min, Bool, true, List, [], ◌∷◌, length, refl, ap, sym, ◌∙◌, subst, arith, IsPermutation, ltb}
use Rattle.std.proofs.Math.Nat.{mul-le-mul_left}
use Rattle.std.specs.Cmp.{IsEquivalence}
use Rattle.std.specs.List.{All, filter}
use Rattle.std.specs.Map.{keys_of}
use Rattle.std.proofs.lemmas.Bool.{cases_lt, ltb-true}
use Rattle.std.proofs.lemmas.List.Elements.{All-map, All-weaker, filter_passes, All-head, All-tail}
use Rattle.std.proofs.lemmas.List.Sums.{sum_by-cons}
use Rattle.std.proofs.lemmas.List.Sorted.{length_permutation, IsPermutation-trans, IsPermutation-map, All-permutation, sum_by-IsPermutation}
use Rattle.std.proofs.lemmas.Map.Keys.{IsDistinct-IsPermutation}
use Rattle.std.specs.Prelude.{IsTrue}
use Rattle.std.specs.Int.{is_power_of_two}
use Rattle.counter_table.specs.Tables.{Table, put, sum_of, purged, IsSampleMiddle}
use Rattle.sketch_frequencies.specs.State.{FrequentState, IsState, IsSampleSize, capacity, state_of}
use Rattle.sketch_frequencies.specs.Growth.{Adds, PurgesExcess}
use Rattle.sketch_frequencies.proofs.Puts.{IsDistinct-put, positive-put, sum_of-put, length_put_le}
use Rattle.sketch_frequencies.proofs.Permutations.{IsDistinct-purged, purged-permutation, IsSampleMiddle-permutation}
use Rattle.sketch_frequencies.proofs.Cases.{by_cases}
use Rattle.sketch_frequencies.proofs.Powers.{power_twice}
use Rattle.sketch_frequencies.proofs.Purges.{purge_takes, heavy, heavy_outside, purged_shorter}

pub positive_purged : {T : Type 0} (m : ℕ) (es : List (T × ℕ)) → All (λ e. 0 < e.1) (purged m es)
positive_purged {T} m es =
    let f : T × ℕ → T × ℕ = λ e. (e.0, e.1 - m) in
    All-map (λ (e : T × ℕ). 0 < e.1) f (filter (λ (e : T × ℕ). ltb m e.1) es) (All-weaker (λ (e : T × ℕ). ltb m e.1 ≡ true) (λ e. 0 < e.1 - m) (λ e t. omega (arith, ltb-true m e.1 t)) (filter (λ (e : T × ℕ). ltb m e.1) es) (filter_passes (λ (e : T × ℕ). ltb m e.1) es))

-- at least one entry loses m
pub sum_of-purged : {T : Type 0} (eq : T → T → Bool) (n m : ℕ) (es : List (T × ℕ)) → 0 < n → IsSampleMiddle n es m → sum_of (purged m es) + m ≤ sum_of es
sum_of-purged eq n m es pos h =
    let some : 1 ≤ heavy_outside eq [] m es = omega (arith, heavy n m es h) in
    omega (arith, purge_takes eq [] m es, mul-le-mul_left m some)

pub state_after : {T : Type 0} {eq : T → T → Bool} → IsEquivalence eq → (old new : FrequentState T) (x : T) (w : ℕ) → 0 < w → IsState eq old → Adds eq old x w new → IsState eq new
state_after {T} {eq} laws old new x w pos ok adds =
    let c1 = put eq old.counters x w in
    let key : T × ℕ → T = λ e. e.0 in
    let num : T × ℕ → ℕ = λ e. e.1 in
    let apart = IsDistinct-put laws old.counters x w ok.distinct in
    let own : IsSampleSize old.max_size new.sample_size = subst (λ (n : ℕ). IsSampleSize old.max_size n) (sym adds.sample_size) ok.sample in
    let sample = subst (λ (n : ℕ). IsSampleSize n new.sample_size) (sym adds.max_size) own in
    by_cases (cases_lt (capacity old.size) (length c1))
    (λ over.
    let k = adds.purge over in
    let left = purged k.m c1 in
    record {
      distinct = IsDistinct-IsPermutation eq laws.symm (keys_of left) (keys_of new.counters) (IsPermutation-map key left new.counters k.left.counters) (IsDistinct-purged laws k.m c1 apart);
      positive = All-permutation (λ e. 0 < e.1) left new.counters k.left.counters (positive_purged k.m c1);
      few = rw k.left.size (omega (arith, length_permutation left new.counters k.left.counters, purged_shorter old.sample_size k.m c1 k.middle, length_put_le eq old.counters x w, ok.few));
      sum = omega (arith, sum_by-IsPermutation num left new.counters k.left.counters, sum_of-purged eq old.sample_size k.m c1 (omega (arith, ok.sample.least)) k.middle, sum_of-put eq old.counters x w, ok.sum, adds.total, k.left.error);
      least = rw k.left.size ok.least;
      within = rw (k.left.size, adds.max_size) ok.within;
      greatest = rw adds.max_size ok.greatest;
      size_power = subst (λ n. IsTrue (is_power_of_two n)) (sym k.left.size) ok.size_power;
      max_size_power = subst (λ n. IsTrue (is_power_of_two n)) (sym adds.max_size) ok.max_size_power;
      empty = λ none. absurd (omega (arith, none, adds.total, pos));
      sample = sample;
    })
    (λ room.
    let k = adds.kept room in
    record {
      distinct = IsDistinct-IsPermutation eq laws.symm (keys_of c1) (keys_of new.counters) (IsPermutation-map key c1 new.counters k.counters) apart;
      positive = All-permutation (λ e. 0 < e.1) c1 new.counters k.counters (positive-put eq old.counters x w pos ok.positive);
      few = rw k.size (omega (arith, length_permutation c1 new.counters k.counters, room));
      sum = omega (arith, sum_by-IsPermutation num c1 new.counters k.counters, sum_of-put eq old.counters x w, ok.sum, adds.total, k.error);
      least = rw k.size ok.least;
      within = rw (k.size, adds.max_size) ok.within;
      greatest = rw adds.max_size ok.greatest;
      size_power = subst (λ n. IsTrue (is_power_of_two n)) (sym k.size) ok.size_power;
      max_size_power = subst (λ n. IsTrue (is_power_of_two n)) (sym adds.max_size) ok.max_size_power;
      empty = λ none. absurd (omega (arith, none, adds.total, pos));
      sample = sample;
    })

-- from what the table's calls say
pub adds_kept : {T : Type 0} (eq : T → T → Bool) (old : FrequentState T) (x : T) (w : ℕ) (t : Table T) → IsPermutation (put eq old.counters x w) t.entries → t.size ≡ old.size → t.key ≡ old.key → t.purges ≡ old.purges → length t.entries ≤ capacity t.size → Adds eq old x w (state_of t old.error (old.total + w) old.max_size old.sample_size)
adds_kept eq old x w t p size key purges few = record {
  total = refl;
  max_size = refl;
  sample_size = refl;
  key = key;
  kept = λ _. record { counters = p; error = refl; size = size; purges = purges };
  purge = λ over. absurd (omega (arith, over, few, length_permutation (put eq old.counters x w) t.entries p, size));
}

pub adds_purged : {T : Type 0} (eq : T → T → Bool) (old : FrequentState T) (x : T) (w : ℕ) (t u : Table T) (m n : ℕ) → IsPermutation (put eq old.counters x w) t.entries → t.size ≡ old.size → capacity t.size < length t.entries → old.size ≡ old.max_size → n ≡ old.sample_size → IsState eq old → IsSampleMiddle (min n (min (length t.entries) 1024)) t.entries m → IsPermutation (purged m t.entries) u.entries → u.size ≡ t.size → u.key ≡ old.key → u.purges ≡ (old.purges + 1) % 2 ^ 64 → Adds eq old x w (state_of u (old.error + m) (old.total + w) old.max_size old.sample_size)
adds_purged {T} eq old x w t u m n p size over same sample ok middle q size' key purges =
    let c1 = put eq old.counters x w in
    let is : min n (min (length t.entries) 1024) ≡ old.sample_size = omega (arith, size, over, same, sample, ok.sample.greatest) in
    record {
      total = refl;
      max_size = refl;
      sample_size = refl;
      key = key;
      kept = λ room. absurd (omega (arith, room, over, length_permutation c1 t.entries p, size));
      purge = λ _. record {
        m = m;
        middle = IsSampleMiddle-permutation old.sample_size m c1 t.entries p (subst (λ (k : ℕ). IsSampleMiddle k t.entries m) is middle);
        left = record { counters = IsPermutation-trans (purged m c1) (purged m t.entries) u.entries (purged-permutation m c1 t.entries p) q; error = refl; size = size' ∙ size; purges = purges };
      };
    }

-- a table of another size with the same counters
pub state_made : {T : Type 0} {eq : T → T → Bool} → IsEquivalence eq → (old : FrequentState T) (t : Table T) → IsState eq old → IsPermutation old.counters t.entries → t.size ≡ 2 * old.size → 2 * old.size ≤ old.max_size → 0 < old.total → IsState eq (state_of t old.error old.total old.max_size old.sample_size)
state_made {T} {eq} laws old t ok p size fits some =
    let key : T × ℕ → T = λ e. e.0 in
    let num : T × ℕ → ℕ = λ e. e.1 in
    record {
      distinct = IsDistinct-IsPermutation eq laws.symm (keys_of old.counters) (keys_of t.entries) (IsPermutation-map key old.counters t.entries p) ok.distinct;
      positive = All-permutation (λ e. 0 < e.1) old.counters t.entries p ok.positive;
      few = omega (arith, length_permutation old.counters t.entries p, ok.few, size);
      sum = omega (arith, sum_by-IsPermutation num old.counters t.entries p, ok.sum);
      least = omega (arith, size, ok.least);
      within = omega (arith, size, fits);
      greatest = ok.greatest;
      size_power = subst (λ n. IsTrue (is_power_of_two n)) (sym size) (power_twice old.size ok.size_power);
      max_size_power = ok.max_size_power;
      empty = λ none. absurd (omega (arith, none, some));
      sample = ok.sample;
    }

-- each counter counts at least one
pub length_le_sum : {T : Type 0} (es : List (T × ℕ)) → All (λ e. 0 < e.1) es → length es ≤ sum_of es
length_le_sum [] h = omega arith
length_le_sum {T} (e ∷ es) h = omega (arith, length_le_sum es (All-tail (λ (p : T × ℕ). 0 < p.1) e es h), All-head (λ (p : T × ℕ). 0 < p.1) e es h, sum_by-cons (λ (p : T × ℕ). p.1) e es)

-- w was added at x, and a purge followed if there was then one counter too many
pub adds_excess : {T : Type 0} (eq : T → T → Bool) (old : FrequentState T) (x : T) (w : ℕ) (t u : Table T) (m : ℕ) → IsPermutation (put eq old.counters x w) t.entries → t.size ≡ old.size → t.key ≡ old.key → t.purges ≡ old.purges → (capacity old.size < length (put eq old.counters x w) → old.size ≡ old.max_size) → IsState eq old → PurgesExcess old.sample_size t u m → Adds eq old x w (state_of u (old.error + m) (old.total + w) old.max_size old.sample_size)
adds_excess {T} eq old x w t u m p size key purges room ok excess =
    by_cases (cases_lt (capacity t.size) (length t.entries))
    (λ over.
    let at = room (omega (arith, over, length_permutation (put eq old.counters x w) t.entries p, size)) in
    adds_purged eq old x w t u m old.sample_size p size over at refl ok (excess.middle over) (excess.entries over) excess.size (excess.key ∙ key) (excess.purges over ∙ ap (λ (n : ℕ). (n + 1) % 2 ^ 64) purges))
    (λ fits.
    let same = excess.kept fits in
    let none : old.error + m ≡ old.error = omega (arith, same.0) in
    rw (none, same.1) (adds_kept eq old x w t p size key purges fits))
