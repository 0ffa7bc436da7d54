-- Sizes from error targets, and their numbers in C.
use Rattle.std.specs.Ordering.{int_eq}
use Rattle.std.specs.Prelude.{◌≡◌, ℕ, ℤ, pos, ◌*◌, ◌≤◌, ◌<◌, IfErr, IfOk, IsErrOf, IsOk, Option, Some, None, Result, if◌then◌else◌}
use Rattle.any_sketch.specs.declared.any_error.AnyError.{AnyError}
use Rattle.any_sketch.specs.declared.any_error.AnyError.TheVariants.{Sketch}
use Rattle.sketch_base.specs.Errors.{invalid_argument}
use Rattle.sketch_base.specs.declared.fault.Fault.{Fault}
use Rattle.sketch_base.specs.declared.fault.Fault.TheVariants as fault
use Rattle.sketch_bloom.specs.Sizes.{IsLn2TimesWithin, AreEnoughBits, AreEnoughBitsRounded}
use Rattle.sketch_countmin.specs.Sizes.{IsETimesWithin, IsWithinPowerOfE}
use Rattle.sketch_frequencies.specs.Sizes.{size_fault}
use Rattle.sketch_frequencies.specs.SuggestedSizes.{usual_budget}
use Rattle.datasketches_c.specs.Calls.{IsWritten}
use Rattle.datasketches_c.specs.Numbers.{bad_argument}
use Rattle.datasketches_c.specs.declared.sizes.Size.{Size}
use Rattle.datasketches_c.specs.declared.sizes.Size.TheVariants.{MaxMapSize, NumBuckets, CountHashes, NumBits, MinNumBits, FilterHashes}

-- The bits are at least 4 times the square root of items times questions. Then, under ideal hashes, an item has the two hashes of one of
-- the items, modulo the number of bits, at most once in 16 times the questions.
abbrev pub KeepsHashesApart : (items questions bits : ℕ) → Type 0
KeepsHashesApart items questions bits = 16 * (items * questions) ≤ bits * bits

-- the error of an argument
abbrev pub refused_for : Fault → AnyError
refused_for fault = Sketch (invalid_argument fault)

-- The maximum size of a sketch of frequent items whose error is at most the total weight over the parts. An error says that there is none.
pub record SuggestsMaxMapSize (parts : ℕ) (result : Result ℕ AnyError) : Type 0 where
  pub done : IfOk result (λ size. (parts ≤ usual_budget size) × (size_fault size ≡ None)
      × ((m : ℕ) → size_fault m ≡ None → parts ≤ usual_budget m → size ≤ m))
  pub refused : IfErr result (λ error. (error ≡ refused_for fault.MapSizeTooLarge) × ((m : ℕ) → usual_budget m < parts))

-- e times the parts, rounded up
pub record SuggestsBuckets (parts : ℕ) (result : Result ℕ AnyError) : Type 0 where
  pub done : IfOk result (λ buckets. IsETimesWithin parts buckets × ((m : ℕ) → IsETimesWithin parts m → buckets ≤ m)
      × (buckets < 1073741824))
  pub none : parts ≡ 0 → IsErrOf result (refused_for fault.BadNumBuckets)
  pub too_many : 0 < parts → IfErr result (λ error. (error ≡ refused_for fault.TableTooLarge)
      × ((m : ℕ) → IsETimesWithin parts m → 1073741824 ≤ m))

-- the natural logarithm of the questions, rounded up
pub record SuggestsCountHashes (questions : ℕ) (result : Result ℕ AnyError) : Type 0 where
  pub done : IfOk result (λ hashes. IsWithinPowerOfE questions hashes
      × ((m : ℕ) → IsWithinPowerOfE questions m → hashes ≤ m) × (hashes ≤ 255))
  pub none : questions ≤ 1 → IsErrOf result (refused_for fault.BadNumHashes)
  pub some : 1 < questions → IsOk result

-- the items times ln of the questions over the square of ln 2, with the binary logarithm of the questions rounded up to 64ths
pub record SuggestsBits (items questions : ℕ) (result : Result ℕ AnyError) : Type 0 where
  pub done : IfOk result (λ bits. AreEnoughBits items questions bits × AreEnoughBitsRounded items questions bits
      × ((m : ℕ) → AreEnoughBitsRounded items questions m → bits ≤ m))
  pub no_items : items ≡ 0 → IsErrOf result (refused_for fault.BadNumBits)
  pub no_questions : questions ≤ 1 → IsErrOf result (refused_for fault.BadNumBits)
  pub too_many : 0 < items → 1 < questions → IfErr result (λ error. (error ≡ refused_for fault.BadNumBits)
      × ((m : ℕ) → AreEnoughBitsRounded items questions m → 137438953152 < m))

-- the least bits that keep hashes apart
pub record SuggestsMinBits (items questions : ℕ) (result : Result ℕ AnyError) : Type 0 where
  pub done : IfOk result (λ bits. KeepsHashesApart items questions bits
      × ((m : ℕ) → KeepsHashesApart items questions m → bits ≤ m))
  pub too_many : IfErr result (λ error. (error ≡ refused_for fault.BadNumBits)
      × ((m : ℕ) → KeepsHashesApart items questions m → 137438953152 < m))

-- the bits over the items times ln 2, rounded up
pub record SuggestsFilterHashes (bits items : ℕ) (result : Result ℕ AnyError) : Type 0 where
  pub done : IfOk result (λ hashes. IsLn2TimesWithin bits (hashes * items)
      × ((m : ℕ) → IsLn2TimesWithin bits (m * items) → hashes ≤ m) × (hashes ≤ 32767))
  pub no_bits : bits ≡ 0 → IsErrOf result (refused_for fault.BadNumBits)
  pub many_bits : 137438953152 < bits → IsErrOf result (refused_for fault.BadNumBits)
  pub too_many : 0 < bits → bits ≤ 137438953152 → IfErr result (λ error. (error ≡ refused_for fault.BadNumHashes)
      × ((m : ℕ) → IsLn2TimesWithin bits (m * items) → 32767 < m))

-- the size that one of C's `DS_SIZE_MAX_MAP_SIZE` .. names, if it is one of them
abbrev pub size_numbered : ℤ → Option Size
size_numbered size =
    if int_eq size (pos 1) then Some MaxMapSize else if int_eq size (pos 2) then Some NumBuckets
    else if int_eq size (pos 3) then Some CountHashes else if int_eq size (pos 4) then Some NumBits
    else if int_eq size (pos 5) then Some MinNumBits else if int_eq size (pos 6) then Some FilterHashes else None

-- the result is the size for one or two targets, or the error
abbrev pub Suggests : Size → (first second : ℕ) → Result ℕ AnyError → Type 0
Suggests MaxMapSize parts second result = SuggestsMaxMapSize parts result
Suggests NumBuckets parts second result = SuggestsBuckets parts result
Suggests CountHashes questions second result = SuggestsCountHashes questions result
Suggests NumBits items questions result = SuggestsBits items questions result
Suggests MinNumBits items questions result = SuggestsMinBits items questions result
Suggests FilterHashes bits items result = SuggestsFilterHashes bits items result

-- the size was written, or the result is its error. If no size is named so, the result is `bad_argument`
abbrev pub WritesSize : Option Size → (first second old new : ℕ) → ℤ → Type 0
WritesSize None first second old new result = (result ≡ bad_argument) × (new ≡ old)
WritesSize (Some size) first second old new result = IsWritten old new result (Suggests size first second)
