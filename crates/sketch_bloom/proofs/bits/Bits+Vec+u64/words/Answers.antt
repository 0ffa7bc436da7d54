use Rattle.std.proofs.Common.{length, ap, ◌∙◌}
use Rattle.sketch_bloom.specs.BitSet.{set_of}
use Rattle.sketch_bloom.specs.State.{FilterState}
use Rattle.sketch_bloom.proofs.bits.Bits+Vec+u64.words.Goals as goal

pub returns : goal.returns
returns c = record {
  count = ap length c.as_slice-words.ensures.value ∙ ap (λ (s : FilterState). s.num_words) c.self.view_is;
  fit = c.have_range.ensures;
  set = ap set_of c.as_slice-words.ensures.value ∙ ap (λ (s : FilterState). s.set) c.self.view_is;
}
