use Rattle.std.proofs.Common.{ℕ, List, get_or, refl, ap, arith}
use Rattle.std.proofs.lemmas.Bool.{false≢true}
use Rattle.sketch_bloom.specs.BitSet.{set_of}
use Rattle.sketch_bloom.proofs.Members.{same_lists_below, same_words}
use Rattle.sketch_bloom.proofs.bit_set.is_same.Goals as goal

pub returns-then-word-other : goal.returns-then-word-other
returns-then-word-other c = (
  (λ t. absurd (false≢true t)),
  (λ e. absurd (c.if-word-other.true (ap (λ (ws : List ℕ). get_or ws c.loop-i.i 0) (same_words c.args.words.now c.args.other.now c.requires (λ k. (c.type_inv.words k).fits) (λ k. (c.type_inv.other k).fits) e)))),
)

pub returns : goal.returns
returns c = (
  (λ t. ap set_of (same_lists_below c.args.words.now c.args.other.now c.loop-i.i c.requires (omega arith) c.loop-i.invariant)),
  (λ e. refl),
)
