use Rattle.std.proofs.Common.{◌≡◌, ℕ, List, [], ◌+◌, ◌-◌, ◌%◌, ◌≤◌, length, take, drop, refl, ap, sym, ◌∙◌, arith}
use Rattle.std.proofs.lemmas.List.{take_all, drop_all, length-take-le, length-drop}
use Rattle.sketch_base.specs.Murmur3State as pieces
use Rattle.sketch_base.specs.Murmur3State.{Murmur3State}
use Rattle.sketch_base.proofs.Murmur3Pieces.{body_is, zeros_long, view_long}
use Rattle.sketch_base.proofs.murmurhash.MurmurHash3X64128.fill_block.Goals as goal

-- the piece is as long as the room that is left
exact : (f : Murmur3State) (b : List ℕ) (u n : ℕ) → f.tail ≡ take u b → length b ≡ 16 → u ≤ 16 → length f.tail + n ≡ 16 → 16 - u ≡ n
exact f b u n e lb lu h =
    let lt : length f.tail ≡ u = ap length e ∙ length-take-le u b (omega arith) in
    omega arith

pub copy_short-requires-clause-same_length : goal.copy_short-requires-clause-same_length
copy_short-requires-clause-same_length c =
    let bs : List ℕ = c.args.bytes.now in
    let u : ℕ = c.self.inside.total % 16 in
    let fits : 16 - u ≡ length bs = exact c.args.self.now c.self.inside.buffer u (length bs) (ap (λ (f : Murmur3State). f.tail) (sym c.self.view_is)) c.self.told (omega arith) c.requires in
    length-take-le (16 - u) (drop u c.self.inside.buffer) (omega (arith, length-drop u c.self.inside.buffer, c.self.told)) ∙ fits

pub invariant_of-self : goal.invariant_of-self
invariant_of-self c =
    let bs : List ℕ = c.args.bytes.now in
    let u : ℕ = c.self.inside.total % 16 in
    let fits : 16 - u ≡ length bs = exact c.args.self.now c.self.inside.buffer u (length bs) (ap (λ (f : Murmur3State). f.tail) (sym c.self.view_is)) c.self.told (omega arith) c.requires in
    let none : [] ≡ drop (16 - u) bs = sym (drop_all (16 - u) bs (omega arith)) in
    zeros_long bs [] [] [] c.self.inside.total (omega arith) none refl refl

pub returns : goal.returns
returns c =
    let bs : List ℕ = c.args.bytes.now in
    let u : ℕ = c.self.inside.total % 16 in
    let fits : 16 - u ≡ length bs = exact c.args.self.now c.self.inside.buffer u (length bs) (ap (λ (f : Murmur3State). f.tail) (sym c.self.view_is)) c.self.told (omega arith) c.requires in
    let none : [] ≡ drop (16 - u) bs = sym (drop_all (16 - u) bs (omega arith)) in
    let all : c.copy_short.new.to ≡ take (16 - u) bs = c.copy_short.ensures ∙ sym (take_all (16 - u) bs (omega arith)) in
    view_long c.self.inside.halves _ c.self.inside.buffer _ bs [] [] [] _ c.self.inside.total c.self.told (omega arith) refl all none
    (c.block-self-inside.ensures ∙ sym (body_is.none _ [])) refl refl
    ∙ ap (λ (f : Murmur3State). pieces.write f bs) c.self.view_is
