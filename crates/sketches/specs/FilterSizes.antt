-- The filter of a run.
use Rattle.std.specs.Prelude.{◌≡◌, ◌⊎◌, ◌<◌, ◌≤◌, ◌*◌, ℕ, max}
use Rattle.sketch_bloom.specs.Building.{words_for}
use Rattle.sketch_bloom.specs.Sizes.{AreEnoughBits, AreEnoughBitsRounded, IsLn2TimesWithin}
use Rattle.sketch_bloom.specs.State.{FilterState, empty_state}
use Rattle.sketches.specs.declared.filter.filter_size.FilterSize.{FilterSize}
use Rattle.sketches.specs.declared.filter.filter_size.Shape.{Shape}
use Rattle.sketches.specs.declared.filter.filter_size.FilterSize.TheVariants.{Target, Shape as OfShape}

-- The minimum number of bits of a filter that is made for a number of items. Two hashes modulo fewer bits repeat too often: of 64 bits
-- there are 4096 pairs of positions, so about 1 in 2000 items meets one of two others.
abbrev pub min_bits : ℕ
min_bits = 65536

-- The numbers of bits and of hashes for this number of items and a false-positive rate of 1/questions: the minimum ones that are at least
-- those of the formulas, for the logarithm of `questions` rounded up to 64ths, and `min_bits` bits if the formula has fewer.
pub record IsShapeFor (items questions : ℕ) (shape : Shape) : Type 0 where
  pub formula : ℕ
  pub enough_bits : AreEnoughBits items questions formula
  pub least_bits : (m : ℕ) → AreEnoughBitsRounded items questions m → formula ≤ m
  pub bits : shape.bits ≡ max formula min_bits
  pub enough_hashes : IsLn2TimesWithin formula (shape.hashes * items)
  pub least_hashes : (m : ℕ) → IsLn2TimesWithin formula (m * items) → shape.hashes ≤ m

-- an empty filter with this seed for this number of items and a false-positive rate of 1/questions
pub record IsFilterFor (items questions seed : ℕ) (filter : FilterState) : Type 0 where
  pub shape : Shape
  pub is_for : IsShapeFor items questions shape
  pub is : filter ≡ empty_state (words_for shape.bits) shape.hashes seed

-- an empty filter of a size, with this seed
abbrev pub IsFilterOf : FilterSize → ℕ → FilterState → Type 0
IsFilterOf (Target target) seed filter = IsFilterFor target.items target.questions seed filter
IsFilterOf (OfShape shape) seed filter = filter ≡ empty_state (words_for shape.bits) shape.hashes seed

-- no filter has this size, whatever memory there is: no items, fewer than 2 questions, 0 or more than 2^37 - 64 bits, or 0 or more
-- than 32767 hashes
abbrev pub HasNoSize : FilterSize → Type 0
HasNoSize (Target target) = (target.items ≡ 0) ⊎ (target.questions ≤ 1)
HasNoSize (OfShape shape) = ((shape.bits ≡ 0) ⊎ (137438953152 < shape.bits)) ⊎ ((shape.hashes ≡ 0) ⊎ (32767 < shape.hashes))
