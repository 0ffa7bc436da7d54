use Rattle.std.proofs.Common.{◌≡◌, ℕ, ◌≤◌, ◌<◌, false, map, length, take, get_or}
use Rattle.sketch_bloom.specs.Pairs.{contains_pair}
use Rattle.sketch_bloom.proofs.Pairs.{contains_first_of}
use Rattle.sketch_bloom.proofs.bits.Bits.contains_pairs.Given as goal

-- the first positions so far were found in the set
abbrev pub invariant-firsts : goal.invariant-firsts
invariant-firsts g l = take l.i l.answers ≡ map (contains_first_of l.self) (take l.i l.pairs)

-- and then all of the pairs so far
abbrev pub invariant-others : goal.invariant-others
invariant-others g l = record {
  done : take l.i l.answers ≡ map (contains_pair l.self) (take l.i l.pairs);
  left : (k : ℕ) → l.i ≤ k → k < length l.pairs → get_or l.answers k false ≡ contains_first_of l.self (get_or l.pairs k (0, 0));
}
