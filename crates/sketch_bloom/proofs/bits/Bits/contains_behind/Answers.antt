use Rattle.std.proofs.Common.{◌≡◌, sym, ◌∙◌, arith}
use Rattle.sketch_bloom.specs.State.{FilterState, capacity_of}
use Rattle.sketch_bloom.proofs.Placing.{first_position, missing_position}
use Rattle.sketch_bloom.proofs.States.{shown_hashes}
use Rattle.sketch_bloom.proofs.bits.Bits.contains_behind.Goals as goal

pub contains_others-requires-clause-found : goal.contains_others-requires-clause-found
contains_others-requires-clause-found g c =
    let s : FilterState = c.args.self.now in
    first_position (capacity_of s) c.args.h0 c.args.h1 s.set ∙ (sym c.requires ∙ c.if-found.true)

pub returns-else-found : goal.returns-else-found
returns-else-found g c =
    let s : FilterState = c.args.self.now in
    let hashes : c.self.inside.num_hashes ≡ s.num_hashes = shown_hashes (g.W.Words.list c.self.inside.words) c.self.inside.capacity c.self.inside.num_hashes c.self.inside.seed s c.self.invariant c.self.view_is in
    c.if-found.false
    ∙ sym (missing_position (capacity_of s) s.num_hashes c.args.h0 c.args.h1 0 s.set (omega (arith, hashes, c.self.invariant.some_hashes)) (sym c.requires ∙ c.if-found.false))
