use Rattle.std.proofs.Common.{ℕ, List, ◌-◌, ◌*◌, ◌/◌, ◌%◌, ◌≤◌, length, take, drop, refl, ap, sym, ◌∙◌, arith}
use Rattle.std.proofs.lemmas.List.{take_rest}
use Rattle.sketch_base.specs.Murmur3State as pieces
use Rattle.sketch_base.specs.Murmur3State.{Murmur3State}
use Rattle.sketch_base.specs.Murmur3.{body}
use Rattle.sketch_base.proofs.Blocks.{enough}
use Rattle.sketch_base.proofs.Blocks.Width.{Sixteen}
use Rattle.sketch_base.proofs.Murmur3Pieces.{zeros_long, view_long}
use Rattle.sketch_base.proofs.murmurhash.MurmurHash3X64128.write_straddling.Goals as goal

-- what is left of the piece behind the block that it fills
abbrev rest : goal.After-copy_short-2 → List ℕ
rest c = take (length c.args.bytes.now - (16 - c.self.inside.total % 16)) (drop (16 - c.self.inside.total % 16) c.args.bytes.now)

-- it does fill it
fits : (c : goal.After-copy_short-2) → 16 - c.self.inside.total % 16 ≤ length c.args.bytes.now
fits c = enough Sixteen c.args.self.now.tail c.self.inside.buffer (c.self.inside.total % 16) (length c.args.bytes.now) (ap (λ (f : Murmur3State). f.tail) (sym c.self.view_is)) c.self.told (omega arith) c.requires

pub invariant_of-self : goal.invariant_of-self
invariant_of-self c = zeros_long c.args.bytes.now (rest c) _ _ c.self.inside.total (fits c) (take_rest c.args.bytes.now _) (take_rest (rest c) (length (rest c) / 16 * 16)) c.copy_short-2.ensures

pub returns : goal.returns
returns c =
    view_long c.self.inside.halves _ c.self.inside.buffer _ c.args.bytes.now (rest c) _ _ _ c.self.inside.total c.self.told (fits c) refl c.copy_short.ensures (take_rest c.args.bytes.now _)
    (c.body-self-inside.ensures ∙ ap (λ (h : ℕ × ℕ). body (length (rest c) / 16) h (rest c)) c.block.ensures) (take_rest (rest c) (length (rest c) / 16 * 16)) c.copy_short-2.ensures
    ∙ ap (λ (f : Murmur3State). pieces.write f c.args.bytes.now) c.self.view_is
