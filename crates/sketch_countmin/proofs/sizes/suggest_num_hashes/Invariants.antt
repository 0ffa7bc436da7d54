use Rattle.std.proofs.Common.{ℕ, ◌<◌, slice_index_or}
use Rattle.sketch_countmin.specs.declared.sizes.TheConstants.{POWERS_OF_E}
use Rattle.sketch_countmin.proofs.sizes.suggest_num_hashes.Given as goal

-- the powers before are below the number
abbrev pub invariant-loop-num_hashes : goal.invariant-loop-num_hashes
invariant-loop-num_hashes l = (i : ℕ) → i < l.num_hashes → slice_index_or POWERS_OF_E i 0 < l.questions
