-- The positions that two hashes give, one after another.
use Rattle.std.proofs.Common.{◌≡◌, ◌≢◌, inl, inr, ℕ, zero, suc, ◌+◌, ◌*◌, ◌/◌, ◌%◌, ◌^◌, ◌<◌, ◌≤◌, ◌==◌, eqb-true, Bool, true, false, ◌&&◌, ◌||◌, not, add_comm, mul_comm, map, refl, sym, ap, ◌∙◌, arith, List, length, get_or, set as put, bit_and, bit_or, cond, add-zero, subst}
use mir.Val.{bool_byte}
use Rattle.std.specs.Int.{bit_at}
use Rattle.std.proofs.lemmas.Nat.Bits.{bit_at-lt, shr_and_one}
use Rattle.std.proofs.lemmas.Bool.Decides.{nat_tests}
use Rattle.std.proofs.Math.Bool.{and-false}
use Rattle.std.specs.List.{range_with_len}
use Rattle.std.specs.Ordering.{nat_cmp}
use Rattle.std.proofs.lemmas.Cmp.{nat_cmp_total}
use Rattle.std.specs.FinMap.{nat_cmp-IsAntisymmetric}
use Rattle.std.proofs.lemmas.List.FromFn.{map-range_with_len_more}
use Rattle.std.proofs.lemmas.Nat.{mod_below}
use Rattle.std.proofs.lemmas.Bool.{cases_eq}
use Rattle.std.proofs.Math.Nat.{mod-add-mod}
use Rattle.std.specs.FinSet as set
use Rattle.sketch_bloom.specs.BitSet.{Numbers, set_of}
use Rattle.sketch_bloom.specs.Positions.{position, positions}
use Rattle.std.proofs.lemmas.Bool.{and_from}
use Rattle.sketch_bloom.proofs.Bools.{or_right}
use Rattle.sketch_bloom.proofs.Sets.{contains-insert, contains-insert_same, contains-union, member_of_subset, is_subset-insert, is_subset-empty, union-empty, union-insert, union_of_subset, len-insert}
use Rattle.sketch_bloom.proofs.Counting.{contains-set_of}
use Rattle.sketch_bloom.proofs.Members.{set_of-set}

-- no position yet
pub positions-zero : (capacity h0 h1 : ℕ) → positions capacity 0 h0 h1 ≡ set.empty
unfolding positions
positions-zero capacity h0 h1 = refl

-- one position more
pub positions-suc : (capacity n h0 h1 : ℕ) → positions capacity (n + 1) h0 h1 ≡ set.insert (positions capacity n h0 h1) (position capacity h0 h1 (n + 1))
unfolding positions
positions-suc capacity n h0 h1 =
    ap set.from_list (map-range_with_len_more (position capacity h0 h1) 1 n (n + 1) (omega arith))
    ∙ set.from_list_push nat_cmp_total nat_cmp-IsAntisymmetric (map (position capacity h0 h1) (range_with_len 1 n)) (position capacity h0 h1 (n + 1))

-- position i is among the positions 1 to n
pub positions_has : (capacity n h0 h1 i : ℕ) → i < n → set.contains (positions capacity n h0 h1) (position capacity h0 h1 (i + 1)) ≡ true
positions_has capacity zero h0 h1 i l = absurd (omega arith)
positions_has capacity (suc n) h0 h1 i l =
    let one : suc n ≡ n + 1 = omega arith in
    let p : ℕ = position capacity h0 h1 (i + 1) in
    ap (λ m. set.contains (positions capacity m h0 h1) p) one
    ∙ ap (λ s. set.contains s p) (positions-suc capacity n h0 h1)
    ∙ (elim (cases_eq i n) as (λ _. set.contains (set.insert (positions capacity n h0 h1) (position capacity h0 h1 (n + 1))) p ≡ true) [
      | inl e ↦ ap (λ j. set.contains (set.insert (positions capacity n h0 h1) (position capacity h0 h1 (n + 1))) (position capacity h0 h1 (j + 1))) e ∙ contains-insert_same (positions capacity n h0 h1) (position capacity h0 h1 (n + 1))
      | inr d ↦ contains-insert (positions capacity n h0 h1) (position capacity h0 h1 (n + 1)) p ∙ or_right _ (set.contains (positions capacity n h0 h1) p) (positions_has capacity n h0 h1 i (omega arith))
    ])

-- every position is below the capacity
pub positions_below : (capacity n h0 h1 : ℕ) → 0 < capacity → (p : ℕ) → set.contains (positions capacity n h0 h1) p ≡ true → p < capacity
positions_below capacity zero h0 h1 some p h = absurd (let e = ap (λ s. set.contains s p) (positions-zero capacity h0 h1) in let f = set.contains-empty nat_cmp p in cc)
positions_below capacity (suc n) h0 h1 some p h =
    let one : suc n ≡ n + 1 = omega arith in
    let last : ℕ = position capacity h0 h1 (n + 1) in
    let split : ((p == last) || set.contains (positions capacity n h0 h1) p) ≡ true = sym (ap (λ m. set.contains (positions capacity m h0 h1) p) one ∙ ap (λ s. set.contains s p) (positions-suc capacity n h0 h1) ∙ contains-insert (positions capacity n h0 h1) last p) ∙ h in
    elim (p == last) as (λ b. (p == last) ≡ b → (b || set.contains (positions capacity n h0 h1) p) ≡ true → p < capacity) [
      | true ↦ λ e _. let same : p ≡ last = eqb-true p last e in let below : last < capacity = mod_below ((h0 + (n + 1) * h1) % 2 ^ 64 / 2) capacity some in omega arith
      | false ↦ λ _ g. positions_below capacity n h0 h1 some p g
    ] refl split

-- where one position is missing, not all are in the set
pub missing_position : (capacity n h0 h1 i : ℕ) (s : Numbers) → i < n → set.contains s (position capacity h0 h1 (i + 1)) ≡ false → set.is_subset (positions capacity n h0 h1) s ≡ false
missing_position capacity n h0 h1 i s l miss =
    elim (set.is_subset (positions capacity n h0 h1) s) as (λ b. set.is_subset (positions capacity n h0 h1) s ≡ b → b ≡ false) [
      | true ↦ λ e. absurd (let has = member_of_subset (positions capacity n h0 h1) s e (position capacity h0 h1 (i + 1)) (positions_has capacity n h0 h1 i l) in cc)
      | false ↦ λ _. refl
    ] refl

-- the running sum of the hashes
pub running_sum : (h0 h1 i hash : ℕ) → hash ≡ (h0 + i * h1) % 2 ^ 64 → (hash + h1) % 2 ^ 64 ≡ (h0 + (i + 1) * h1) % 2 ^ 64
running_sum h0 h1 i hash e =
    let sums : (h0 + i * h1) + h1 ≡ h0 + (i + 1) * h1 = omega arith in
    ap (λ n. (n + h1) % 2 ^ 64) e ∙ mod-add-mod (h0 + i * h1) (2 ^ 64) h1 ∙ ap (λ n. n % 2 ^ 64) sums

-- some positions were inserted into the old words, and so many of them were new
pub record Inserts (old : List ℕ) (placed : Numbers) (new : List ℕ) (added : ℕ) : Type 0 where
  pub union : set_of new ≡ set.union (set_of old) placed
  pub count : set.len (set_of new) ≡ set.len (set_of old) + added
  pub contained : set.is_subset placed (set_of old) ≡ (added == 0)

-- no position yet
pub inserts_none : (old : List ℕ) (placed : Numbers) → placed ≡ set.empty → Inserts old placed old 0
inserts_none old placed e = record {
  union = sym (union-empty (set_of old)) ∙ ap (set.union (set_of old)) (sym e);
  count = sym (add-zero (set.len (set_of old)));
  contained = ap (λ s. set.is_subset s (set_of old)) e ∙ is_subset-empty (set_of old);
}

-- a position that was in the set before adds nothing
inserts_present : (old : List ℕ) (placed : Numbers) (words new : List ℕ) (added p : ℕ) → Inserts old placed words added → set_of new ≡ set.insert (set_of words) p → set.contains (set_of words) p ≡ true → Inserts old (set.insert placed p) new added
inserts_present old placed words new added p before is has = record {
  union = is ∙ ap (λ s. set.insert s p) before.union ∙ sym (union-insert (set_of old) placed p);
  count = ap set.len is ∙ len-insert (set_of words) p ∙ ap (λ b. cond b (set.len (set_of words)) (set.len (set_of words) + 1)) has ∙ before.count;
  contained = is_subset-insert placed (set_of old) p ∙ (elim (added == 0) as (λ b. (added == 0) ≡ b → (set.is_subset placed (set_of old) && set.contains (set_of old) p) ≡ b) [
    | true ↦ λ e.
        let sub : set.is_subset placed (set_of old) ≡ true = before.contained ∙ e in
        let same : set_of words ≡ set_of old = before.union ∙ union_of_subset (set_of old) placed sub in
        and_from (set.is_subset placed (set_of old)) (set.contains (set_of old) p) sub (ap (λ s. set.contains s p) (sym same) ∙ has)
    | false ↦ λ e. ap (λ b. b && set.contains (set_of old) p) (before.contained ∙ e)
  ] refl);
}

-- a position that was not in the set is new
inserts_absent : (old : List ℕ) (placed : Numbers) (words new : List ℕ) (added p : ℕ) → Inserts old placed words added → set_of new ≡ set.insert (set_of words) p → set.contains (set_of words) p ≡ false → Inserts old (set.insert placed p) new (added + 1)
inserts_absent old placed words new added p before is lacks = record {
  union = is ∙ ap (λ s. set.insert s p) before.union ∙ sym (union-insert (set_of old) placed p);
  count = ap set.len is ∙ len-insert (set_of words) p ∙ ap (λ b. cond b (set.len (set_of words)) (set.len (set_of words) + 1)) lacks ∙ omega (arith, before.count);
  contained = is_subset-insert placed (set_of old) p
      ∙ ap (λ b. set.is_subset placed (set_of old) && b) (left_of_or (set.contains (set_of old) p) (set.contains placed p) (sym (contains-union (set_of old) placed p) ∙ ap (λ s. set.contains s p) (sym before.union) ∙ lacks))
      ∙ and-false (set.is_subset placed (set_of old))
      ∙ sym (never_zero added);
}
  where
    left_of_or : (a b : Bool) → (a || b) ≡ false → a ≡ false
    left_of_or true b h = h
    left_of_or false b h = refl

    never_zero : (n : ℕ) → (n + 1 == 0) ≡ false
    never_zero n = grind (arith, nat_tests)

-- a test counts as one at most
pub counted_test : (b : Bool) → bool_byte b ≤ 1
counted_test true = omega arith
counted_test false = omega arith

-- one position more
pub inserts_one : (old : List ℕ) (placed : Numbers) (words : List ℕ) (added p : ℕ) → p < 64 * length words → Inserts old placed words added
    → Inserts old (set.insert placed p) (put words (p / 64) (bit_or (get_or words (p / 64) 0) (1 * 2 ^ (p % 64) % 2 ^ 64))) (added + bool_byte (bit_and (get_or words (p / 64) 0 / 2 ^ (p % 64)) 1 == 0))
inserts_one old placed words added p l before =
    let w : ℕ = get_or words (p / 64) 0 in
    let new : List ℕ = put words (p / 64) (bit_or w (1 * 2 ^ (p % 64) % 2 ^ 64)) in
    let is : set_of new ≡ set.insert (set_of words) p = set_of-set words p l in
    let bit : bit_and (w / 2 ^ (p % 64)) 1 ≡ bit_at w (p % 64) = shr_and_one w (p % 64) in
    let low : bit_at w (p % 64) < 2 = bit_at-lt w (p % 64) in
    elim (bit_at w (p % 64) == 1) as (λ b. (bit_at w (p % 64) == 1) ≡ b → Inserts old (set.insert placed p) new (added + bool_byte (bit_and (w / 2 ^ (p % 64)) 1 == 0))) [
      | true ↦ λ e.
          let one : bit_at w (p % 64) ≡ 1 = eqb-true (bit_at w (p % 64)) 1 e in
          let same : added ≡ added + bool_byte (bit_and (w / 2 ^ (p % 64)) 1 == 0) = sym (add-zero added) ∙ ap (λ n. added + bool_byte (n == 0)) (sym (bit ∙ one)) in
          subst (λ n. Inserts old (set.insert placed p) new n) same (inserts_present old placed words new added p before is (contains-set_of words p ∙ e))
      | false ↦ λ e.
          let none : bit_at w (p % 64) ≡ 0 = not_one (bit_at w (p % 64)) low e in
          let more : added + 1 ≡ added + bool_byte (bit_and (w / 2 ^ (p % 64)) 1 == 0) = ap (λ n. added + bool_byte (n == 0)) (sym (bit ∙ none)) in
          subst (λ n. Inserts old (set.insert placed p) new n) more (inserts_absent old placed words new added p before is (contains-set_of words p ∙ e))
    ] refl
  where
    not_one : (n : ℕ) → n < 2 → (n == 1) ≡ false → n ≡ 0
    not_one n l e = grind (arith, nat_tests)

-- what the code computes of the running sum is the next position
pub place_is : (capacity h0 h1 i hash index : ℕ) → hash ≡ (h0 + i * h1) % 2 ^ 64 → index ≡ (hash + h1) % 2 ^ 64 / 2 % capacity → index ≡ position capacity h0 h1 (i + 1)
place_is capacity h0 h1 i hash index e p = p ∙ ap (λ n. n / 2 % capacity) (running_sum h0 h1 i hash e)

-- the bit at a number's index says whether it stands in the words
pub reads_unset : (words : List ℕ) (p : ℕ) → bit_and (get_or words (p / 64) 0 / 2 ^ (p % 64)) 1 ≡ 0 → set.contains (set_of words) p ≡ false
reads_unset words p e =
    contains-set_of words p ∙ ap (λ n. n == 1) (sym (shr_and_one (get_or words (p / 64) 0) (p % 64)) ∙ e)

-- and so does a bit that is not 0
pub reads_set : (words : List ℕ) (p : ℕ) → bit_and (get_or words (p / 64) 0 / 2 ^ (p % 64)) 1 ≢ 0 → set.contains (set_of words) p ≡ true
reads_set words p d =
    let bit : bit_and (get_or words (p / 64) 0 / 2 ^ (p % 64)) 1 ≡ bit_at (get_or words (p / 64) 0) (p % 64) = shr_and_one (get_or words (p / 64) 0) (p % 64) in
    let low : bit_at (get_or words (p / 64) 0) (p % 64) < 2 = bit_at-lt (get_or words (p / 64) 0) (p % 64) in
    let one : bit_at (get_or words (p / 64) 0) (p % 64) ≡ 1 = omega arith in
    contains-set_of words p ∙ ap (λ n. n == 1) one

-- the first position alone
pub first_position : (capacity h0 h1 : ℕ) (s : Numbers) → set.is_subset (positions capacity 1 h0 h1) s ≡ set.contains s (position capacity h0 h1 1)
first_position capacity h0 h1 s =
    ap (λ t. set.is_subset t s) (positions-suc capacity 0 h0 h1)
    ∙ is_subset-insert (positions capacity 0 h0 h1) s (position capacity h0 h1 1)
    ∙ ap (λ t. set.is_subset t s && set.contains s (position capacity h0 h1 1)) (positions-zero capacity h0 h1)
    ∙ ap (λ b. b && set.contains s (position capacity h0 h1 1)) (is_subset-empty s)

-- the test of the bit at a number's index
pub reads_test : (words : List ℕ) (p : ℕ) → not (bit_and (get_or words (p / 64) 0 / 2 ^ (p % 64)) 1 == 0) ≡ set.contains (set_of words) p
reads_test words p =
    let bit : ℕ = bit_and (get_or words (p / 64) 0 / 2 ^ (p % 64)) 1 in
    elim (bit == 0) as (λ b. (bit == 0) ≡ b → not b ≡ set.contains (set_of words) p) [
      | true ↦ λ e. sym (reads_unset words p (eqb-true bit 0 e))
      | false ↦ λ e. sym (reads_set words p (λ z. grind (arith, nat_tests)))
    ] refl

-- a sum of hashes to begin with
pub sum_from : (h0 h1 probed : ℕ) → (h0 + h1 * probed % 2 ^ 64) % 2 ^ 64 ≡ (h0 + probed * h1) % 2 ^ 64
sum_from h0 h1 probed =
    ap (λ n. n % 2 ^ 64) (add_comm h0 (h1 * probed % 2 ^ 64))
    ∙ mod-add-mod (h1 * probed) (2 ^ 64) h0
    ∙ ap (λ n. n % 2 ^ 64) (add_comm (h1 * probed) h0 ∙ ap (λ n. h0 + n) (mul_comm h1 probed))
