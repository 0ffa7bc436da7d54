use Rattle.std.proofs.Common.{ℕ, ◌<◌, ◌/◌, ◌^◌, slice_index_or}
use Rattle.sketch_bloom.specs.declared.sizes.TheConstants.{POWERS_OF_TWO}
use Rattle.sketch_bloom.proofs.sizes.log_in_64ths.Given as goal

-- the powers before, moved down, are below the number
abbrev pub invariant-loop-part : goal.invariant-loop-part
invariant-loop-part l = (i : ℕ) → i < l.part → slice_index_or POWERS_OF_TWO i 0 / 2 ^ l.shift < l.n
