use Rattle.std.proofs.Common.{sym, ◌∙◌, arith}
use Rattle.sketch_bloom.proofs.ByteWords.{word_of_bytes, word_within}
use Rattle.sketch_bloom.proofs.words.RefSliceU8Words.word.Goals as goal

pub overflow_mul-i : goal.overflow_mul-i
overflow_mul-i c = record { fits = omega (arith, word_within c.args.self.now.now c.args.i c.requires) }

pub u64_at-requires : goal.u64_at-requires
u64_at-requires c = word_within c.args.self.now.now c.args.i c.requires

pub returns : goal.returns
returns c = c.u64_at.ensures ∙ sym (word_of_bytes c.args.self.now.now c.args.i c.requires)
