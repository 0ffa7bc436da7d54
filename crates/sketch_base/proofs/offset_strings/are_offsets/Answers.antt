use Rattle.std.proofs.Common.{◌≡◌, ℕ, ◌+◌, ◌-◌, ◌<◌, ◌≤◌, ⊎_elim, false, List, length, get_or, subst, arith}
use Rattle.std.specs.Prelude.{IsTrue}
use Rattle.std.proofs.lemmas.Bool.{cases_lt, false≢true}
use Rattle.sketch_base.specs.Strings.{AreOffsets}
use Rattle.sketch_base.proofs.offset_strings.are_offsets.Goals as goal

-- an offset is not below the one before it
not_below : (bytes offsets : List ℕ) (i offset last : ℕ) → AreOffsets bytes offsets → i < length offsets → offset ≡ get_or offsets i 0 → (i ≡ 0 → last ≡ 0) → (0 < i → last ≡ get_or offsets (i - 1) 0) → offset < last → ⊥
not_below bytes offsets i offset last are here is none some below =
    ⊎_elim
    (λ (pos : 0 < i).
    let next : i - 1 + 1 ≡ i = omega arith in
    let ascends : get_or offsets (i - 1) 0 ≤ get_or offsets i 0 = subst (λ (n : ℕ). get_or offsets (i - 1) 0 ≤ get_or offsets n 0) next (are.ascending (i - 1) (omega arith)) in
    omega (arith, is, some pos, ascends, below))
    (λ (zero : i ≤ 0). let first : i ≡ 0 = omega arith in omega (arith, none first, below))
    (cases_lt 0 i)

pub returns-then-offset-last : goal.returns-then-offset-last
returns-then-offset-last g c =
    let bytes = c.args.bytes.now in
    let offsets = g.O.Offsets.offsets c.args.offsets in
    (λ (t : IsTrue false). absurd (false≢true t), λ (are : AreOffsets bytes offsets). absurd (not_below bytes offsets c.each.i c.at-offset.result c.each.last are (omega (arith, c.each-test.true, c.len-i-end.ensures)) c.at-offset.ensures c.each.invariant.first c.each.invariant.last c.if-offset-last.true))
