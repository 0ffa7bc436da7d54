-- The home of an item, the index after an index, and where a look-up stands.
use Rattle.std.proofs.Common.{◌≡◌, ℕ, ◌+◌, ◌-◌, ◌%◌, ◌<◌, ap, sym, ◌∙◌, arith, bit_and}
use Rattle.std.proofs.Math.Nat.{mod-lt}
use Rattle.sketch_base.specs.PowersOfTwo.{masked_remainder}
use Rattle.counter_table.specs.Homes.{home_in, ahead}
use Rattle.counter_table.specs.Slots.{IsTableSize}
use Rattle.counter_table.proofs.ArithmeticPowers.{power_positive}
use Rattle.counter_table.proofs.ArithmeticRing.{ahead_is}

pub some_size : (n : ℕ) → IsTableSize n → 0 < n
some_size n size = power_positive n size.power

-- a mask takes the remainder
pub masked : (x n : ℕ) → IsTableSize n → bit_and x (n - 1) ≡ x % n
masked x n size = masked_remainder x n size.power

pub next_masked : (p n : ℕ) → IsTableSize n → bit_and (p + 1) (n - 1) ≡ ahead n p 1
unfolding ahead
next_masked p n size = masked (p + 1) n size

pub after_masked : (p j n : ℕ) → IsTableSize n → bit_and (p + j) (n - 1) ≡ ahead n p j
unfolding ahead
after_masked p j n size = masked (p + j) n size

pub before_masked : (p back n : ℕ) → IsTableSize n → bit_and (p + (n - back)) (n - 1) ≡ ahead n p (n - back)
unfolding ahead
before_masked p back n size = masked (p + (n - back)) n size

pub stride_masked : (p stride n : ℕ) → IsTableSize n → bit_and (p + stride) (n - 1) ≡ (p + stride) % n
stride_masked p stride n size = masked (p + stride) n size

pub remainder_below : (hash n : ℕ) → 0 < n → hash % n < n
remainder_below hash n h = mod-lt hash h

pub ahead-next : (n h j : ℕ) → h < n → j + 1 < n → ahead n (ahead n h j) 1 ≡ ahead n h (j + 1)
ahead-next n h j l m =
    let a = ahead_is n h j l (omega arith) in
    let b = ahead_is n (ahead n h j) 1 a.below (omega arith) in
    let c = ahead_is n h (j + 1) l (omega arith) in
    omega arith

pub ahead-more : (n h j k : ℕ) → h < n → j + k < n → ahead n (ahead n h j) k ≡ ahead n h (j + k)
ahead-more n h j k l m =
    let a = ahead_is n h j l (omega arith) in
    let b = ahead_is n (ahead n h j) k a.below (omega arith) in
    let c = ahead_is n h (j + k) l (omega arith) in
    omega arith

pub ahead-zero : (n h : ℕ) → h < n → ahead n h 0 ≡ h
ahead-zero n h l = let a = ahead_is n h 0 l (omega arith) in omega arith

-- ---- a look-up that has looked at so many indices from the home of x on
pub record Stands {T : Type 0} (hashed : T → ℕ) (x : T) (n index probed : ℕ) : Type 0 where
  pub at_index : index ≡ ahead n (home_in hashed n x) probed
  pub below : probed < n

module _ {T : Type 0} (hashed : T → ℕ) (x : T) (n : ℕ) (size : IsTableSize n) where
  home_below : home_in hashed n x < n
  home_below = remainder_below _ n (some_size n size)

  -- it starts at the home
  pub stands_first : (index : ℕ) → index ≡ home_in hashed n x → Stands hashed x n index 0
  stands_first index is = record { at_index = is ∙ sym (ahead-zero n (home_in hashed n x) home_below); below = some_size n size }

  -- its index is one of the table's
  pub stands_within : (index probed : ℕ) → Stands hashed x n index probed → index < n
  stands_within index probed s = let a = ahead_is n (home_in hashed n x) probed home_below (omega (arith, s.below)) in omega (arith, s.at_index, a.below)

  -- and goes on to the next
  pub stands_next : (index next probed : ℕ) → Stands hashed x n index probed → next ≡ ahead n index 1 → probed + 1 < n → Stands hashed x n next (probed + 1)
  stands_next index next probed s step below = record { at_index = step ∙ ap (λ p. ahead n p 1) s.at_index ∙ ahead-next n (home_in hashed n x) probed home_below below; below = below }

  -- or to one that is several on
  pub stands_on : (index to probed on : ℕ) → Stands hashed x n index probed → to ≡ ahead n index on → probed + on < n → Stands hashed x n to (probed + on)
  stands_on index to probed on s step below = record { at_index = step ∙ ap (λ p. ahead n p on) s.at_index ∙ ahead-more n (home_in hashed n x) probed on home_below below; below = below }
