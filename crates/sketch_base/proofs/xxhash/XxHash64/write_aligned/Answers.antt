use Rattle.std.proofs.Common.{ℕ, List, ◌*◌, ◌/◌, length, ap, ◌∙◌, rules}
use Rattle.std.proofs.lemmas.List.{take_rest}
use Rattle.sketch_base.specs.Xxh64State as pieces
use Rattle.sketch_base.specs.Xxh64State.{Xxh64State}
use Rattle.sketch_base.proofs.Xxh64Pieces.{view_whole, none_begun}
use Rattle.sketch_base.proofs.xxhash.XxHash64.write_aligned.Goals as goal

pub returns : goal.returns
returns c =
    let bs : List ℕ = c.args.bytes.now in
    let none = none_begun c.args.self.now c.self.inside.buffer c.self.inside.seed c.self.inside.is_long c.self.inside.accumulators c.self.inside.total c.self.view_is (search rules) c.requires.none_begun in
    view_whole c.self.inside.seed c.self.inside.is_long c.self.inside.accumulators _ _ bs _ _ c.self.inside.total none.0 c.requires.whole c.stripes-self-inside.ensures (take_rest bs (length bs / 32 * 32)) c.copy_short.ensures
    ∙ ap (λ (f : Xxh64State). pieces.write f bs) none.1
