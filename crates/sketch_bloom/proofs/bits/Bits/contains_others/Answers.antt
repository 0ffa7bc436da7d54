use Rattle.std.proofs.Common.{◌≡◌, ◌≢◌, ◌+◌, ◌/◌, ◌%◌, ◌^◌, ℕ, List, bit_and, sym, ap, subst, ◌∙◌, arith}
use Rattle.std.specs.FinSet as set
use Rattle.sketch_bloom.specs.Positions.{position, positions}
use Rattle.sketch_bloom.specs.State.{FilterState, capacity_of}
use Rattle.std.proofs.lemmas.Bool.{and_from}
use Rattle.sketch_bloom.proofs.Sets.{is_subset-insert}
use Rattle.sketch_bloom.proofs.Placing.{positions-suc, missing_position, running_sum, reads_set, reads_unset, sum_from}
use Rattle.sketch_bloom.proofs.States.{shown_set, shown_hashes, shown_place}
use Rattle.sketch_bloom.proofs.bits.Bits.contains_others.Goals as goal

pub probes-init : goal.probes-init
probes-init g c = (sum_from c.args.h0 c.args.h1 c.args.probed, c.requires.found)

pub returns-then-word-index-eq0 : goal.returns-then-word-index-eq0
returns-then-word-index-eq0 g c =
    let s : FilterState = c.args.self.now in
    let words : List ℕ = g.W.Words.list c.self.inside.words in
    let p : ℕ = c.index_of-index.result in
    let index : p ≡ position (capacity_of s) c.args.h0 c.args.h1 (c.probes._i + 1) = shown_place words c.self.inside.capacity c.self.inside.num_hashes c.self.inside.seed s c.self.invariant c.self.view_is c.args.h0 c.args.h1 c.probes._i c.probes.hash p c.probes.invariant.0 c.index_of-index.ensures.value in
    sym (missing_position (capacity_of s) s.num_hashes c.args.h0 c.args.h1 c.probes._i s.set (omega (arith, c.probes-test.true, shown_hashes words c.self.inside.capacity c.self.inside.num_hashes c.self.inside.seed s c.self.invariant c.self.view_is))
    (ap (set.contains s.set) (sym index) ∙ (shown_set words c.self.inside.capacity c.self.inside.num_hashes c.self.inside.seed s c.self.invariant c.self.view_is p ∙ reads_unset words p (ap (λ (w : ℕ). bit_and (w / 2 ^ (p % 64)) 1) (sym c.word-word.ensures) ∙ c.if-word-index-eq0.true))))

pub probes-preserved : goal.probes-preserved
probes-preserved g c =
    let s : FilterState = c.args.self.now in
    let words : List ℕ = g.W.Words.list c.self.inside.words in
    let p : ℕ = c.index_of-index.result in
    let index : p ≡ position (capacity_of s) c.args.h0 c.args.h1 (c.probes._i + 1) = shown_place words c.self.inside.capacity c.self.inside.num_hashes c.self.inside.seed s c.self.invariant c.self.view_is c.args.h0 c.args.h1 c.probes._i c.probes.hash p c.probes.invariant.0 c.index_of-index.ensures.value in (
      running_sum c.args.h0 c.args.h1 c.probes._i c.probes.hash c.probes.invariant.0,
      ap (λ placed. set.is_subset placed s.set) (positions-suc (capacity_of s) c.probes._i c.args.h0 c.args.h1)
          ∙ (is_subset-insert (positions (capacity_of s) c.probes._i c.args.h0 c.args.h1) s.set (position (capacity_of s) c.args.h0 c.args.h1 (c.probes._i + 1))
          ∙ and_from _ _ c.probes.invariant.1 (ap (set.contains s.set) (sym index) ∙ (shown_set words c.self.inside.capacity c.self.inside.num_hashes c.self.inside.seed s c.self.invariant c.self.view_is p ∙ reads_set words p (subst (λ (w : ℕ). bit_and (w / 2 ^ (p % 64)) 1 ≢ 0) c.word-word.ensures c.if-word-index-eq0.false)))),
    )
