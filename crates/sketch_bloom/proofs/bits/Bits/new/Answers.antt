use Rattle.std.proofs.Common.{arith}
use Rattle.sketch_bloom.proofs.States.{bits_state}
use Rattle.sketch_bloom.proofs.bits.Bits.new.Goals as goal

pub invariant_of-result : goal.invariant_of-result
invariant_of-result g c = record {
  some_words = omega (arith, c.requires.num_words, c.requires.some_words);
  few_words = omega (arith, c.requires.num_words, c.requires.few_words);
  capacity_is = omega (arith, c.requires.num_words, c.new.ensures);
  some_hashes = c.requires.some_hashes;
  few_hashes = c.requires.few_hashes;
}

pub returns-clause-state : goal.returns-clause-state
returns-clause-state g c = bits_state (g.W.Words.list c.args.words) c.new.result c.args.num_hashes c.args.seed (invariant_of-result g c)
