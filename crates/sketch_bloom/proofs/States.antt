-- What holds of bits and of a filter, from what holds of their fields.
use Rattle.std.proofs.Common.{◌≡◌, ℕ, ◌+◌, ◌*◌, ◌/◌, ◌%◌, ◌^◌, ◌<◌, ◌≤◌, List, length, replicate, sym, ap, subst, ◌∙◌, arith}
use Rattle.std.proofs.lemmas.List.{length-replicate, with_items_is}
use Rattle.std.specs.Global.{Vec}
use Rattle.std.specs.Vec.{with_items}
use Rattle.std.specs.FinSet as set
use Rattle.sketch_bloom.specs.BitSet.{set_of}
use Rattle.sketch_bloom.specs.Fields.{AreBits, state_of}
use Rattle.sketch_bloom.specs.Positions.{position}
use Rattle.sketch_bloom.specs.State.{FilterState, IsFilterState, capacity_of, empty_state}
use Rattle.sketch_bloom.proofs.Counting.{len-set_of-le}
use Rattle.sketch_bloom.proofs.Placing.{place_is}
use Rattle.sketch_bloom.proofs.Members.{below_capacity, set_of-zeros, zero_everywhere}

-- what holds of the state that bits show
pub bits_state : (words : List ℕ) (capacity num_hashes seed : ℕ) → AreBits words capacity num_hashes → IsFilterState (state_of words num_hashes seed)
bits_state words capacity num_hashes seed b = record {
  some_words = b.some_words;
  few_words = b.few_words;
  some_hashes = b.some_hashes;
  few_hashes = b.few_hashes;
  within = below_capacity words;
}

-- and of the state that bits show whose words were written over
pub written_state : (v : Vec ℕ) (new : List ℕ) (capacity num_hashes seed : ℕ) → AreBits v.items capacity num_hashes → length new ≡ length v.items → IsFilterState (state_of (with_items v new).items num_hashes seed)
written_state v new capacity num_hashes seed b len =
    let whole : IsFilterState (state_of new num_hashes seed) = bits_state new capacity num_hashes seed (record {
      some_words = omega (arith, b.some_words);
      few_words = omega (arith, b.few_words);
      capacity_is = omega (arith, b.capacity_is);
      some_hashes = b.some_hashes;
      few_hashes = b.few_hashes;
    }) in
    subst (λ (words : List ℕ). IsFilterState (state_of words num_hashes seed)) (sym (with_items_is v new (len ∙ sym v.ok.0))) whole

-- the set of such bits is small
pub written_few : (v : Vec ℕ) (new : List ℕ) → length v.items ≤ 2147483647 → length new ≡ length v.items → set.len (set_of (with_items v new).items) < 2 ^ 64
written_few v new few len =
    subst (λ (words : List ℕ). set.len (set_of words) < 2 ^ 64) (sym (with_items_is v new (len ∙ sym v.ok.0))) (omega (arith, len-set_of-le new))

-- what bits show of a state
module _ (words : List ℕ) (capacity num_hashes seed : ℕ) (s : FilterState) (b : AreBits words capacity num_hashes) (is : state_of words num_hashes seed ≡ s) where
  -- its set
  pub shown_set : (p : ℕ) → set.contains s.set p ≡ set.contains (set_of words) p
  shown_set p = ap (λ (t : FilterState). set.contains t.set p) (sym is)

  -- its number of hashes
  pub shown_hashes : num_hashes ≡ s.num_hashes
  shown_hashes = ap (λ (t : FilterState). t.num_hashes) is

  -- its positions
  pub shown_place : (h0 h1 i hash index : ℕ) → hash ≡ (h0 + i * h1) % 2 ^ 64 → index ≡ (hash + h1) % 2 ^ 64 / 2 % capacity → index ≡ position (capacity_of s) h0 h1 (i + 1)
  shown_place h0 h1 i hash index e p = place_is (capacity_of s) h0 h1 i hash index e (p ∙ ap (λ n. (hash + h1) % 2 ^ 64 / 2 % n) (b.capacity_is ∙ ap capacity_of is))

-- words of zeros show the empty state
pub zeroed_state : (words : List ℕ) (n num_hashes seed : ℕ) → words ≡ replicate n 0 → state_of words num_hashes seed ≡ empty_state n num_hashes seed
zeroed_state words n num_hashes seed e =
    let len : length words ≡ n = ap length e ∙ length-replicate n 0 in
    let none : set_of words ≡ set.empty = set_of-zeros words (zero_everywhere words n e) in
    λ i. record { num_words = len i; num_hashes = num_hashes; seed = seed; set = none i }
