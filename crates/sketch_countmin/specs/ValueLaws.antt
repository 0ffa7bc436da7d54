-- The laws of the value types, for all widths at once.
use Rattle.std.proofs.Common.{◌≡◌, ℕ, ◌+◌, ◌<◌, ◌≤◌, ◌^◌, refl, ap, ◌∙◌, arith}
use Rattle.std.specs.Prelude.{ℤ, pos, negsuc, ◌≤ℤ◌, ◌<ℤ◌, ◌+ℤ◌, unsigned_abs}
use Rattle.std.specs.Int.{w64, cast_signed, cast_unsigned}
use Rattle.std.specs.declared.cmp.Ordering.TheVariants.{Less, Equal, Greater}
use Rattle.std.specs.declared.cmp.Ordering.{Ordering}
use Rattle.std.specs.Ordering.{nat_cmp, int_cmp, MatchOrdering}
use mir.Val.{SFits}
use Rattle.std.proofs.lemmas.Int.{ints, to_z-of_z}
use Rattle.std.proofs.lemmas.Nat.{from_le_bytes-to_le_bytes_8}
use Rattle.std.proofs.lemmas.Cmp.{ranked, int_ranked}
use Rattle.sketch_countmin.specs.Values.{InRange, bytes_of, number_in}

-- each number that is no further from zero than the maximum is in the range of a signed type
pub signed_fits : (g : ℕ) (z : ℤ) → unsigned_abs z ≤ g → InRange (negsuc g) g z
signed_fits g (pos n) h = (omega (arith, ints), omega (arith, ints))
signed_fits g (negsuc n) h = (omega (arith, ints), omega (arith, ints))

-- each natural number up to the maximum is in the range of an unsigned type
pub unsigned_fits : (g n : ℕ) → n ≤ g → InRange (pos 0) g (pos n)
unsigned_fits g n h = (omega (arith, ints), omega (arith, ints))

-- zero is in the range of a signed type
pub zero_in_signed : (g : ℕ) → negsuc g ≤ℤ pos 0
zero_in_signed g = omega (arith, ints)

-- a natural number is not negative
pub not_negative : (n : ℕ) → pos 0 ≤ℤ pos n
not_negative n = omega (arith, ints)

-- the order of signed types is that of the numbers
pub signed_order : (x y : ℤ) → MatchOrdering (int_cmp x y) (x <ℤ y) (x ≡ y) (y <ℤ x)
signed_order x y = int_ranked x y (int_cmp x y) refl

-- an order of natural numbers is one of integers
lifted : (x y : ℕ) (o : Ordering) → MatchOrdering o (x < y) (x ≡ y) (y < x)
    → MatchOrdering o (pos x <ℤ pos y) (pos x ≡ pos y) (pos y <ℤ pos x)
lifted x y Less h = omega (arith, ints)
lifted x y Equal h = ap pos h
lifted x y Greater h = omega (arith, ints)

-- the order of unsigned types is that of the numbers
pub unsigned_order : (x y : ℕ) → MatchOrdering (nat_cmp x y) (pos x <ℤ pos y) (pos x ≡ pos y) (pos y <ℤ pos x)
unsigned_order x y = lifted x y (nat_cmp x y) (ranked x y (nat_cmp x y) refl)

-- the numbers of a signed type of at most 64 bits fit that width
fits_64 : (g : ℕ) → g < 2 ^ 63 → (z : ℤ) → InRange (negsuc g) g z → SFits w64 z
fits_64 g small (pos n) h = record { sfits = omega (arith, ints) }
fits_64 g small (negsuc n) h = record { sfits = omega (arith, ints) }

-- the bits of a number are below the width
bits_below : (z : ℤ) → SFits w64 z → cast_unsigned w64 z < 2 ^ 64
bits_below (pos n) h = omega (arith, h.sfits)
bits_below (negsuc n) h = omega arith

-- a number of a signed type is read back from its bytes
pub signed_bytes : (g : ℕ) → g < 2 ^ 63 → (z : ℤ) → InRange (negsuc g) g z → number_in (negsuc g) (bytes_of z) ≡ z
signed_bytes g small z h =
    let fits : SFits w64 z = fits_64 g small z h in
    ap (λ (n : ℕ). cast_signed w64 n) (from_le_bytes-to_le_bytes_8 (cast_unsigned w64 z) (bits_below z fits))
    ∙ to_z-of_z w64 z fits

-- a number of an unsigned type is read back from its bytes
pub unsigned_bytes : (g : ℕ) → g < 2 ^ 64 → (z : ℤ) → InRange (pos 0) g z → number_in (pos 0) (bytes_of z) ≡ z
unsigned_bytes g small (pos n) h = ap pos (from_le_bytes-to_le_bytes_8 n (omega (arith, ints)))
unsigned_bytes g small (negsuc n) h = absurd (omega (arith, ints))

-- what holds of every value type
pub record ValueLaws {S : Type 0} (number : S → ℤ) (zero one max min : S) (size : ℕ) (least : ℤ) (greatest : ℕ) (cmp : S → S → Ordering) : Type 0 where
  pub zero_is : number zero ≡ pos 0
  pub one_is : number one ≡ pos 1
  pub max_is : number max ≡ pos greatest
  pub min_is : number min ≡ least
  pub size_fits : size ≤ 8
  pub ordered : (x y : S) → MatchOrdering (cmp x y) (number x <ℤ number y) (number x ≡ number y) (number y <ℤ number x)
  pub zero_fits : least ≤ℤ pos 0
  pub sum_fits : (x y : S) → unsigned_abs (number x +ℤ number y) ≤ greatest → InRange least greatest (number x +ℤ number y)
  pub bytes_fit : (z : ℤ) → InRange least greatest z → number_in least (bytes_of z) ≡ z

-- the laws of a signed type, by its size and its maximum
pub signed_laws : (size greatest : ℕ) → size ≤ 8 → greatest < 2 ^ 63 → ValueLaws {S = ℤ} (λ x. x) (pos 0) (pos 1) (pos greatest) (negsuc greatest) size (negsuc greatest) greatest int_cmp
signed_laws size greatest fits small = record {
  zero_is = refl;
  one_is = refl;
  max_is = refl;
  min_is = refl;
  size_fits = fits;
  ordered = signed_order;
  zero_fits = zero_in_signed greatest;
  sum_fits = λ x y. signed_fits greatest (x +ℤ y);
  bytes_fit = signed_bytes greatest small;
}

-- the laws of an unsigned type, by its size and its maximum
pub unsigned_laws : (size greatest : ℕ) → size ≤ 8 → greatest < 2 ^ 64 → ValueLaws {S = ℕ} pos 0 1 greatest 0 size (pos 0) greatest nat_cmp
unsigned_laws size greatest fits small = record {
  zero_is = refl;
  one_is = refl;
  max_is = refl;
  min_is = refl;
  size_fits = fits;
  ordered = unsigned_order;
  zero_fits = not_negative 0;
  sum_fits = λ x y. unsigned_fits greatest (x + y);
  bytes_fit = unsigned_bytes greatest small;
}
