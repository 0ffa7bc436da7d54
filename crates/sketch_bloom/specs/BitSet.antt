-- Sets of numbers as lists of words of 64 bits: a number p is in the set if bit p % 64 of word p / 64 is set.
use Rattle.std.specs.Prelude.{ℕ, zero, suc, ◌*◌, ◌/◌, ◌%◌, ◌==◌, Bool, ◌&&◌, if◌then◌else◌, List, length, slice_index}
use Rattle.std.specs.Int.{bit_at}
use Rattle.std.specs.Ordering.{nat_cmp}
use Rattle.std.specs.FinSet as set
use Rattle.sketch_base.specs.Fields.{words_in}

-- a finite set of numbers
abbrev pub Numbers : Type 0
Numbers = set.FinSet nat_cmp

-- whether two sets are subsets of each other
abbrev pub same_set : Numbers → Numbers → Bool
same_set s t = set.is_subset s t && set.is_subset t s

-- whether the bit of a number is set
abbrev pub bit_in : List ℕ → ℕ → Bool
bit_in words p = bit_at (slice_index words (p / 64)) (p % 64) == 1

-- the numbers below n whose bit is set
abbrev pub set_below : List ℕ → ℕ → Numbers
set_below words zero = set.empty
set_below words (suc n) = if bit_in words n then set.insert (set_below words n) n else set_below words n

-- all numbers whose bit is set
unfoldable pub set_of : List ℕ → Numbers
set_of words = set_below words (64 * length words)

-- the words of 64 bits in bytes
abbrev pub words_of_bytes : List ℕ → List ℕ
words_of_bytes bytes = words_in (length bytes / 8) bytes
