use Rattle.std.proofs.Common.{◌≡◌, ◌+◌, ◌*◌, ◌/◌, ◌%◌, ◌^◌, ◌==◌, ℕ, List, not, bit_and, sym, ap, ◌∙◌, arith}
use Rattle.std.specs.FinSet as set
use Rattle.std.proofs.Math.Nat.{mod-eq_of_lt}
use Rattle.sketch_bloom.specs.State.{FilterState}
use Rattle.sketch_bloom.proofs.Placing.{reads_test}
use Rattle.sketch_bloom.proofs.States.{shown_set, shown_place}
use Rattle.sketch_bloom.proofs.bits.Bits.contains_first.Goals as goal

pub returns : goal.returns
returns g c =
    let s : FilterState = c.args.self.now in
    let words : List ℕ = g.W.Words.list c.self.inside.words in
    let none : c.args.h0 + 0 * c.args.h1 ≡ c.args.h0 = omega arith in
    let start : c.args.h0 ≡ (c.args.h0 + 0 * c.args.h1) % 2 ^ 64 = sym (ap (λ n. n % 2 ^ 64) none ∙ mod-eq_of_lt c.ranges.h0.fits) in
    let p : ℕ = c.index_of-index.result in
    ap (λ (w : ℕ). not (bit_and (w / 2 ^ (p % 64)) 1 == 0)) c.word.ensures
    ∙ (reads_test words p
    ∙ (sym (shown_set words c.self.inside.capacity c.self.inside.num_hashes c.self.inside.seed s c.self.invariant c.self.view_is p)
    ∙ ap (set.contains s.set) (shown_place words c.self.inside.capacity c.self.inside.num_hashes c.self.inside.seed s c.self.invariant c.self.view_is c.args.h0 c.args.h1 0 c.args.h0 p start c.index_of-index.ensures.value)))
