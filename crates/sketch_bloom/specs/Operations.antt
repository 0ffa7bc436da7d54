-- The operations on two sets, and on two words of them.
use Rattle.std.specs.Prelude.{ℕ, bit_and, bit_or}
use Rattle.std.specs.Int.{w64, bit_not}
use Rattle.std.specs.FinSet as set
use Rattle.sketch_bloom.specs.BitSet.{Numbers}
use Rattle.sketch_bloom.specs.declared.set_operation.SetOperation.{SetOperation}
use Rattle.sketch_bloom.specs.declared.set_operation.SetOperation.TheVariants.{Union, Intersection, Difference}

-- the operation on two sets
abbrev pub on_sets : SetOperation → Numbers → Numbers → Numbers
on_sets Union s t = set.union s t
on_sets Intersection s t = set.intersection s t
on_sets Difference s t = set.difference s t

-- the operation on two words
abbrev pub on_words : SetOperation → ℕ → ℕ → ℕ
on_words Union x y = bit_or x y
on_words Intersection x y = bit_and x y
on_words Difference x y = bit_and x (bit_not w64 y)
