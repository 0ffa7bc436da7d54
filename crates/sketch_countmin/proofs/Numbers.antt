-- Numbers scaled by a fraction.
use Rattle.std.proofs.Common.{◌≡◌, ℕ, ◌+◌, ◌-◌, ◌*◌, ◌/◌, ◌^◌, ◌<◌, ◌≤◌, ℤ, pos, negsuc, ◌≤ℤ◌, unsigned_abs, to_z, of_z, bit_and, ◌∙◌, arith}
use Rattle.std.specs.Prelude.{◌+ℤ◌, ◌-ℤ◌}
use Rattle.std.specs.Int.{w64, w128}
use mir.Val.{SFits}
use Rattle.std.proofs.lemmas.Int.{ints}
use Rattle.std.proofs.lemmas.Nat.{mul-le, and_mask}
use Rattle.std.proofs.Math.Nat.{div-le_of_le-mul}
use Rattle.sketch_countmin.specs.Values.{InRange}

pub scaled_below : (v n d : ℕ) → 0 < n → n ≤ d → v * n / d ≤ v
scaled_below v n d p h = div-le_of_le-mul d (omega (arith, mul-le v n v d (omega arith) h))

pub scaled_fits : (least : ℤ) (greatest v n d : ℕ) → least ≤ℤ pos 0 → v ≤ greatest → 0 < n → n ≤ d → InRange least greatest (pos (v * n / d))
scaled_fits least greatest v n d low high p h = let e = scaled_below v n d p h in (omega (arith, ints), omega (arith, ints, e))

-- a product of two numbers of 64 bits
pub product_fits : (m n : ℕ) → m < 2 ^ 64 → n < 2 ^ 64 → m * n < 2 ^ 128
product_fits m n h k = omega (arith, mul-le m n 18446744073709551615 18446744073709551615 (omega arith) (omega arith))

-- a number of 64 bits, through the casts of the code
pub whole_is : (z : ℤ) (n : ℕ) → z ≡ pos n → n < 2 ^ 64 → to_z w128 (of_z w128 z) ≡ pos n
whole_is z n e small = omega (arith, ints)

-- how far it is from zero
pub size_is : (x z : ℤ) (n : ℕ) → n ≡ unsigned_abs (to_z w128 (of_z w128 x)) → x ≡ z → unsigned_abs x < 2 ^ 64 → n ≡ unsigned_abs z
size_is x z n size same small = omega (arith, ints)

pub size_fits : (x : ℤ) (n : ℕ) → n ≡ unsigned_abs (to_z w128 (of_z w128 x)) → unsigned_abs x < 2 ^ 64 → n < 2 ^ 64
size_fits x n size small = omega (arith, ints)

pub quotient_is : (q : ℕ) → q < 2 ^ 64 → to_z w128 q ≡ pos q
quotient_is q small = omega (arith, ints)

-- a number of 127 bits and a sign fits 128 bits
pub small_fits : (z : ℤ) → unsigned_abs z < 2 ^ 127 → SFits w128 z
small_fits (pos n) h = record { sfits = omega (arith, ints) }
small_fits (negsuc n) h = record { sfits = omega (arith, ints) }

-- what is left of the greatest number
pub room_left : (x y : ℤ) (most n : ℕ) → x ≡ pos most → y ≡ pos n → most < 2 ^ 64 → n ≤ most → to_z w128 (of_z w128 (to_z w128 (of_z w128 x) -ℤ to_z w128 (of_z w128 y))) ≡ pos (most - n)
room_left x y most n top own small le = omega (arith, ints)

pub room_fits : (x y : ℤ) (most n : ℕ) → x ≡ pos most → y ≡ pos n → most < 2 ^ 64 → n ≤ most → SFits w128 (to_z w128 (of_z w128 x) -ℤ to_z w128 (of_z w128 y))
room_fits x y most n top own small le = small_fits (to_z w128 (of_z w128 x) -ℤ to_z w128 (of_z w128 y)) (omega (arith, ints))

-- the bytes of a table
pub cells_bytes : (cells size : ℕ) → cells < 2 ^ 30 → size ≤ 8 → cells * size < 2 ^ 33
cells_bytes cells size few small = omega (arith, mul-le cells size cells 8 (omega arith) small)

-- the cells of the largest shape
pub cells_fit : (rows width : ℕ) → rows < 2 ^ 8 → width < 2 ^ 32 → rows * width < 2 ^ 64
cells_fit rows width h k = omega (arith, mul-le rows width 255 4294967295 (omega arith) (omega arith))

-- the sum of two numbers of 64 bits, through the casts of the code
pub sum_fits : (x y : ℤ) → unsigned_abs x < 2 ^ 64 → unsigned_abs y < 2 ^ 64 → SFits w128 (to_z w128 (of_z w128 x) +ℤ to_z w128 (of_z w128 y))
sum_fits x y h k = small_fits (to_z w128 (of_z w128 x) +ℤ to_z w128 (of_z w128 y)) (omega (arith, ints))

pub sum_is : (x y a b : ℤ) → x ≡ a → y ≡ b → unsigned_abs x < 2 ^ 64 → unsigned_abs y < 2 ^ 64 → to_z w128 (of_z w128 (to_z w128 (of_z w128 x) +ℤ to_z w128 (of_z w128 y))) ≡ a +ℤ b
sum_is x y a b e f h k = omega (arith, ints)

-- and of one of them and a number of 126 bits
pub gain_fits : (x : ℤ) (n : ℕ) → unsigned_abs x < 2 ^ 64 → n < 2 ^ 126 → SFits w128 (to_z w128 (of_z w128 x) +ℤ to_z w128 n)
gain_fits x n h k = small_fits (to_z w128 (of_z w128 x) +ℤ to_z w128 n) (omega (arith, ints))

pub gain_is : (x : ℤ) (t n : ℕ) → x ≡ pos t → unsigned_abs x < 2 ^ 64 → n < 2 ^ 64 → to_z w128 (of_z w128 (to_z w128 (of_z w128 x) +ℤ to_z w128 n)) ≡ pos (t + n)
gain_is x t n e h k = omega (arith, ints)

-- the low half of a number of 128 bits
pub low_word : (x : ℕ) (y z : ℤ) → x ≡ of_z w128 (to_z w128 (of_z w128 y)) → y ≡ z → unsigned_abs y < 2 ^ 64 → bit_and x 18446744073709551615 ≡ of_z w64 z
low_word x y (pos n) e same small = and_mask x 64 ∙ grind (arith, ints)
low_word x y (negsuc n) e same small = and_mask x 64 ∙ grind (arith, ints)
