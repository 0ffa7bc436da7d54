use Rattle.std.proofs.Common.{◌≡◌, sym, ap, refl, ◌∙◌}
use Rattle.std.proofs.lemmas.Bool.Decides.{same_from_decides}
use Rattle.sketch_bloom.specs.Equality.{same_states, same_filter-Decides}
use Rattle.sketch_bloom.specs.State.{FilterState, IsCompatible, same_filter}
use Rattle.sketch_bloom.proofs.bloom_filter.BloomFilterPartialEq.eq.Goals as goal

pub returns-then-is_compatible : goal.returns-then-is_compatible
returns-then-is_compatible c =
    let a : FilterState = c.args.self.now in
    let b : FilterState = c.args.other.now in
    let alike : IsCompatible c.args.self.now c.args.other.now = c.if-is_compatible.ensures.0 refl in
    let mine : c.self.inside.bits.set ≡ a.set = ap (λ (s : FilterState). s.set) c.self.view_is in
    let theirs : c.other.inside.bits.set ≡ b.set = ap (λ (s : FilterState). s.set) c.other.view_is in
    same_from_decides c.is_same.result (same_filter a b) (
      (λ t. same_states a b alike.num_words alike.num_hashes alike.seed (sym mine ∙ c.is_same.ensures.0 t ∙ theirs)),
      (λ e. c.is_same.ensures.1 (mine ∙ ap (λ (s : FilterState). s.set) e ∙ sym theirs)),
    )
    (same_filter-Decides a b)
