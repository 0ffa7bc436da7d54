use Rattle.std.proofs.Common.{ℕ, List, ◌-◌, ◌*◌, ◌/◌, ◌%◌, ◌≤◌, length, take, drop, refl, ap, sym, ◌∙◌, arith}
use Rattle.std.proofs.lemmas.List.{take_rest}
use Rattle.sketch_base.specs.Xxh64State as pieces
use Rattle.sketch_base.specs.Xxh64State.{Xxh64State}
use Rattle.sketch_base.specs.Xxh64.{Accumulators, stripes}
use Rattle.sketch_base.proofs.Blocks.{enough}
use Rattle.sketch_base.proofs.Blocks.Width.{ThirtyTwo}
use Rattle.sketch_base.proofs.Xxh64Pieces.{view_long}
use Rattle.sketch_base.proofs.xxhash.XxHash64.write_straddling.Goals as goal

-- what is left of the piece behind the block that it fills
abbrev rest : goal.After-copy_short-2 → List ℕ
rest c = take (length c.args.bytes.now - (32 - c.self.inside.total % 32)) (drop (32 - c.self.inside.total % 32) c.args.bytes.now)

pub returns : goal.returns
returns c =
    let fits : 32 - c.self.inside.total % 32 ≤ length c.args.bytes.now = enough ThirtyTwo c.args.self.now.tail c.self.inside.buffer (c.self.inside.total % 32) (length c.args.bytes.now) (ap (λ (f : Xxh64State). f.tail) (sym c.self.view_is)) c.self.told (omega arith) c.requires in
    view_long c.self.inside.seed c.self.inside.is_long c.self.inside.accumulators _ c.self.inside.buffer _ _ c.args.bytes.now (rest c) _ _ _ c.self.inside.total c.self.told fits refl c.copy_short.ensures (take_rest c.args.bytes.now _)
    (c.stripes-self-inside.ensures ∙ ap (λ (h : Accumulators). stripes (length (rest c) / 32) h (rest c)) c.stripe.ensures) (take_rest (rest c) (length (rest c) / 32 * 32)) c.copy_short-2.ensures
    ∙ ap (λ (f : Xxh64State). pieces.write f c.args.bytes.now) c.self.view_is
