-- What came together in a sketch, stream by stream.
use Rattle.std.proofs.Common.{◌≡◌, ℕ, ◌+◌, ◌-◌, ◌*◌, ◌/◌, ◌≤◌, length, Bool, cond, List, [], ◌∷◌, refl, sym, ◌∙◌, ap, subst, arith}
use Rattle.std.specs.Prelude.{sum_by}
use Rattle.std.specs.List.{All, Contains, list_any}
use Rattle.std.proofs.Math.Nat.{mul-le-mul_right}
use Rattle.std.proofs.lemmas.List.Elements.{All-cons, All-contains, All-contains_itself, All-head, All-tail, All-weaker, Contains-append_left, Contains-append_right, Contains-push}
use Rattle.std.proofs.lemmas.List.Sums.{sum_by-append, sum_by-cons}
use Rattle.counter_table.specs.Tables.{count_of, sum_outside}
use Rattle.sketch_frequencies.specs.History.{FrequentHistory, true_weight, weight_outside, own_size, own_sample, min_sample}
use Rattle.sketch_frequencies.specs.History.FrequentHistory.{New, Update, Merge, Reset, Restored}
use Rattle.sketch_frequencies.specs.Stands.{Encloses, KeepsTailBudget}
use Rattle.sketch_frequencies.specs.State.{FrequentState, max_sample_size}
use Rattle.sketch_frequencies.specs.Streams.{own_stream, other_streams, streams_of, EnclosesStreams, KeepsBudgetOfStreams}

-- ---- weights

-- two sums, each of what it is a sum of, are one
both_sums : (x y a b all : ℕ) → x ≡ a → y ≡ b → all ≡ a + b → x + y ≡ all
both_sums x y a b all e f sum = omega (arith, e, f, sum)

-- what is added to the first of two numbers is added to their sum
more_first : (all own others more : ℕ) → all ≡ own + others → all + more ≡ (own + more) + others
more_first all own others more e = omega (arith, e)

module _ {T : Type 0} (eq : T → T → Bool) where
  -- a true weight is the sum of those of the streams
  true_weight-streams : (h : FrequentHistory T) (x : T) → true_weight eq h x ≡ sum_by (λ g. true_weight eq g x) (streams_of h)
  true_weight-streams (Merge g h) x =
      both_sums (true_weight eq g x) (true_weight eq h x) (sum_by (λ k. true_weight eq k x) (streams_of g)) (sum_by (λ k. true_weight eq k x) (streams_of h)) _
      (true_weight-streams g x) (true_weight-streams h x) (sum_by-append (λ (k : FrequentHistory T). true_weight eq k x) (streams_of g) (streams_of h))
  true_weight-streams (Update h y w) x =
      let f : FrequentHistory T → ℕ = λ k. true_weight eq k x in
      more_first (true_weight eq h x) (f (own_stream h)) (sum_by f (other_streams h)) (cond (eq y x) w 0) (true_weight-streams h x ∙ sum_by-cons f (own_stream h) (other_streams h))
      ∙ sym (sum_by-cons f (Update (own_stream h) y w) (other_streams h))
  true_weight-streams (Restored h) x = true_weight-streams h x
  true_weight-streams (New m n) x = refl
  true_weight-streams (Reset h) x = refl

  -- so is the weight outside a set
  weight_outside-streams : (set : List T) (h : FrequentHistory T) → weight_outside eq set h ≡ sum_by (weight_outside eq set) (streams_of h)
  weight_outside-streams set (Merge g h) =
      both_sums (weight_outside eq set g) (weight_outside eq set h) (sum_by (weight_outside eq set) (streams_of g)) (sum_by (weight_outside eq set) (streams_of h)) _
      (weight_outside-streams set g) (weight_outside-streams set h) (sum_by-append (weight_outside eq set) (streams_of g) (streams_of h))
  weight_outside-streams set (Update h y w) =
      let f : FrequentHistory T → ℕ = weight_outside eq set in
      more_first (weight_outside eq set h) (f (own_stream h)) (sum_by f (other_streams h)) (cond (list_any (eq y) set) 0 w) (weight_outside-streams set h ∙ sum_by-cons f (own_stream h) (other_streams h))
      ∙ sym (sum_by-cons f (Update (own_stream h) y w) (other_streams h))
  weight_outside-streams set (Restored h) = weight_outside-streams set h
  weight_outside-streams set (New m n) = refl
  weight_outside-streams set (Reset h) = refl

-- ---- how many counters are sampled

module _ {T : Type 0} where
  -- the own stream has the sketch's own greatest size
  own_size-own : (h : FrequentHistory T) → own_size (own_stream h) ≡ own_size h
  own_size-own (New m n) = refl
  own_size-own (Update h x w) = own_size-own h
  own_size-own (Merge g h) = own_size-own g
  own_size-own (Reset h) = own_size-own h
  own_size-own (Restored h) = own_size-own h

  -- and samples as the sketch's own purges do
  own_sample-own : (h : FrequentHistory T) → own_sample (own_stream h) ≡ own_sample h
  own_sample-own (New m n) = refl
  own_sample-own (Update h x w) = own_sample-own h
  own_sample-own (Merge g h) = own_sample-own g
  own_sample-own (Reset h) = own_sample-own h
  own_sample-own (Restored h) = ap max_sample_size (own_size-own h)

  -- what all streams sample at least, they do before a step of the own one that samples as before
  sampled_before : (n : ℕ) (old new : FrequentHistory T) (others : List (FrequentHistory T)) → min_sample new ≡ min_sample old → ((g : FrequentHistory T) → Contains (new ∷ others) g → n ≤ min_sample g) → (g : FrequentHistory T) → Contains (old ∷ others) g → n ≤ min_sample g
  sampled_before n old new others e all k =
      let enough : FrequentHistory T → Type 0 = λ g. n ≤ min_sample g in
      let every : All enough (new ∷ others) = All-weaker (Contains (new ∷ others)) enough all (new ∷ others) (All-contains_itself (new ∷ others)) in
      All-contains enough (old ∷ others) k (All-cons enough old others (subst (λ (m : ℕ). n ≤ m) e (All-head enough new others every)) (All-tail enough new others every))

  -- what all streams sample at least, the least sample is at least
  min_sample-streams : (n : ℕ) (h : FrequentHistory T) → ((g : FrequentHistory T) → Contains (streams_of h) g → n ≤ min_sample g) → n ≤ min_sample h
  min_sample-streams n (Merge g h) all =
      let first = min_sample-streams n g (λ k is. all k (Contains-append_left (streams_of g) (streams_of h) k is)) in
      let second = min_sample-streams n h (λ k is. all k (Contains-append_right (streams_of g) (streams_of h) k is)) in
      omega (arith, first, second)
  min_sample-streams n (Restored h) all = min_sample-streams n h (sampled_before n (own_stream h) (Restored (own_stream h)) (other_streams h) refl all)
  min_sample-streams n (Update h y w) all = min_sample-streams n h (sampled_before n (own_stream h) (Update (own_stream h) y w) (other_streams h) refl all)
  min_sample-streams n (New m k) all = all (New m k) (Contains-push [] (New m k))
  min_sample-streams n (Reset h) all = subst (λ (m : ℕ). n ≤ m) (own_sample-own h) (all (Reset (own_stream h)) (Contains-push [] (Reset (own_stream h))))

halves : (n m : ℕ) → n ≤ m → n / 2 ≤ m / 2
halves n m h = omega (arith, h)

-- a budget of fewer indices
fewer : (outside a b k e weight : ℕ) → a ≤ b → outside + (b - k) * e ≤ weight → outside + (a - k) * e ≤ weight
fewer outside a b k e weight h within =
    let least : (a - k) * e ≤ (b - k) * e = mul-le-mul_right e (omega (arith, h)) in
    omega (arith, least, within)

-- ---- the laws

module _ {T : Type 0} (eq : T → T → Bool) where
  -- the bounds, over the sums of the streams
  pub streams_enclosed : (s : FrequentState T) (h : FrequentHistory T) → Encloses eq s h → EnclosesStreams eq s h
  streams_enclosed s h encloses x =
      let all = true_weight-streams eq h x in (
        subst (λ (n : ℕ). count_of eq s.counters x ≤ n) all (encloses.at_least x),
        subst (λ (n : ℕ). n ≤ count_of eq s.counters x + s.error) all (encloses.at_most x),
      )

  -- the tail budget of all streams, by what each of them samples at least
  pub streams_budget : (s : FrequentState T) (h : FrequentHistory T) → KeepsTailBudget eq s h → KeepsBudgetOfStreams eq s h
  streams_budget s h keeps sampled all set few =
      let less : sampled / 2 ≤ min_sample h / 2 = halves sampled (min_sample h) (min_sample-streams sampled h all) in
      let whole = keeps set (omega (arith, few, less)) in
      fewer (sum_outside eq set s.counters) (sampled / 2) (min_sample h / 2) (length set) s.error _ less
      (subst (λ (n : ℕ). sum_outside eq set s.counters + (min_sample h / 2 - length set) * s.error ≤ n) (weight_outside-streams eq set h) whole)

-- ---- a worked example

-- updates by x and by z, with a merge of a sketch that was fed y between them
merged_between : {T : Type 0} (x y z : T) →
    streams_of (Update (Merge (Update (New 64 48) x 1) (Update (New 8 6) y 2)) z 3) ≡ Update (Update (New 64 48) x 1) z 3 ∷ Update (New 8 6) y 2 ∷ []
merged_between x y z = refl
