use Rattle.std.proofs.Common.{ℕ, List, ◌-◌, ◌*◌, ◌/◌, ◌%◌, ◌≤◌, length, take, drop, refl, ap, sym, ◌∙◌, arith, rules}
use Rattle.std.proofs.lemmas.List.{take_rest}
use Rattle.sketch_base.specs.SipHashState as pieces
use Rattle.sketch_base.specs.SipHashState.{SipHashState}
use Rattle.sketch_base.specs.SipHash.{State}
use Rattle.sketch_base.proofs.Blocks.{enough}
use Rattle.sketch_base.proofs.Blocks.Width.{Eight}
use Rattle.sketch_base.proofs.SipHashPieces.{each, zeros_long, view_long, word_is}
use Rattle.sketch_base.proofs.sip_hasher.SipHasher13.write_straddling.Goals as goal

-- what is left of the piece behind the block that it fills
abbrev rest : goal.After-copy_short-2 → List ℕ
rest c = take (length c.args.bytes.now - (8 - c.self.inside.total % 8)) (drop (8 - c.self.inside.total % 8) c.args.bytes.now)

-- it does fill it
fits : (c : goal.After-copy_short-2) → 8 - c.self.inside.total % 8 ≤ length c.args.bytes.now
fits c = enough Eight c.args.self.now.tail c.self.inside.buffer (c.self.inside.total % 8) (length c.args.bytes.now) (ap (λ (f : SipHashState). f.tail) (sym c.self.view_is)) c.self.told (omega arith) c.requires

pub invariant_of-self : goal.invariant_of-self
invariant_of-self c = zeros_long c.args.bytes.now (rest c) _ _ c.self.inside.total (fits c) (take_rest c.args.bytes.now _) (take_rest (rest c) (length (rest c) / 8 * 8)) c.copy_short-2.ensures

pub returns : goal.returns
returns c =
    view_long c.self.inside.state _ c.self.inside.buffer _ c.args.bytes.now (rest c) _ _ _ c.self.inside.total c.self.told (fits c) refl c.copy_short.ensures (take_rest c.args.bytes.now _)
    (c.compress_words-self-inside.ensures ∙ ap (λ (h : State). each (length (rest c) / 8) h (rest c)) (word_is _ _ _ _ (search rules) c.compression.ensures c.u64_at.ensures)) (take_rest (rest c) (length (rest c) / 8 * 8)) c.copy_short-2.ensures
    ∙ ap (λ (f : SipHashState). pieces.write f c.args.bytes.now) c.self.view_is
