use Rattle.std.proofs.Common.{◌≡◌, ℕ, ◌-◌, ◌<◌, ◌≤◌, true, false, List, length, get_or, refl, subst, sym, ap, ◌∙◌, arith, rules, below_more}
use Rattle.std.specs.Prelude.{IsTrue}
use Rattle.std.specs.List.{All}
use Rattle.std.specs.Str.{IsUtf8, IsCharBoundary}
use Rattle.std.proofs.lemmas.Bool.{false≢true}
use Rattle.sketch_base.specs.Strings.{strings_of}
use Rattle.sketch_base.proofs.StringBoundaries.{ordered, whole_ends, whole_from_all, boundary_from_all, all_from_whole}
use Rattle.sketch_base.proofs.offset_strings.are_utf8.Goals as goal

-- the last offset
last_of : (offsets : List ℕ) (n last : ℕ) → n ≡ length offsets → last ≡ get_or offsets (n - 1) 0 → last ≡ get_or offsets (length offsets - 1) 0
last_of offsets n last long is = is ∙ ap (λ (m : ℕ). get_or offsets (m - 1) 0) long

pub slice_bounds-from_utf8-count : goal.slice_bounds-from_utf8-count
slice_bounds-from_utf8-count g c =
    let offsets = g.O.Offsets.offsets c.args.offsets in
    rw (c.at-first.ensures, last_of offsets c.len.result c.at-last.result c.len.ensures c.at-last.ensures) (whole_ends c.args.bytes.now offsets c.requires).0

pub slice_bounds-from_utf8-start : goal.slice_bounds-from_utf8-start
slice_bounds-from_utf8-start g c =
    let offsets = g.O.Offsets.offsets c.args.offsets in
    let end = last_of offsets c.len.result c.at-last.result c.len.ensures c.at-last.ensures in
    let e = whole_ends c.args.bytes.now offsets c.requires in
    let first : c.at-first.result ≤ c.at-last.result = rw (c.at-first.ensures, end) e.0 in
    let last : c.at-last.result ≤ length c.args.bytes.now = rw end e.1 in
    search rules

pub returns-in_default : goal.returns-in_default
returns-in_default g c =
    let offsets = g.O.Offsets.offsets c.args.offsets in
    let end = last_of offsets c.len.result c.at-last.result c.len.ensures c.at-last.ensures in
    let strings = strings_of c.args.bytes.now offsets in
    let other = rw (c.at-first.ensures, end) at c.in_default.ensures.cases.0 in
    (λ (t : IsTrue false). absurd (false≢true t), λ (all : All IsUtf8 strings). absurd (other (whole_from_all c.args.bytes.now offsets c.requires all)))

pub overflow_sub-at : goal.overflow_sub-at
overflow_sub-at g c =
    let offsets = g.O.Offsets.offsets c.args.offsets in
    let here : c.each.i < length offsets = omega (arith, c.each-test.true, c.len-i-end.ensures) in
    rw (c.at-first.ensures, c.at.ensures) (ordered c.args.bytes.now offsets c.requires 0 c.each.i (omega arith) here)

-- a string begins inside a character
pub returns-then-not-is_char_boundary : goal.returns-then-not-is_char_boundary
returns-then-not-is_char_boundary g c =
    let offsets = g.O.Offsets.offsets c.args.offsets in
    let end = last_of offsets c.len.result c.at-last.result c.len.ensures c.at-last.ensures in
    let strings = strings_of c.args.bytes.now offsets in
    let here : c.each.i < length offsets = omega (arith, c.each-test.true, c.len-i-end.ensures) in
    let inside : IsCharBoundary c.in-Ok.text.now (c.at.result - c.at-first.result) → IsTrue false =
    λ boundary. sym c.if-not-is_char_boundary.true ∙ c.is_char_boundary.ensures.test.1 boundary in
    let text = rw (c.at-first.ensures, end) at c.in-Ok.ensures.cases.0 in
    (λ (t : IsTrue false). absurd (false≢true t), λ (all : All IsUtf8 strings). inside (rw (c.at.ensures, c.at-first.ensures) (subst (λ text. IsCharBoundary text (get_or offsets c.each.i 0 - get_or offsets 0 0)) (sym text) (boundary_from_all c.args.bytes.now offsets c.requires all c.each.i here))))

pub each-preserved : goal.each-preserved
each-preserved g c =
    below_more _ _ c.each.invariant (rw (c.at.ensures, c.at-first.ensures) at (c.is_char_boundary.ensures.test.0 c.if-not-is_char_boundary.false))

pub returns : goal.returns
returns g c =
    let bytes = c.args.bytes.now in
    let offsets = g.O.Offsets.offsets c.args.offsets in
    let end = last_of offsets c.len.result c.at-last.result c.len.ensures c.at-last.ensures in
    let here : length offsets ≤ c.each.i = omega (arith, c.each-test.false, c.len-i-end.ensures) in
    let text = rw (c.at-first.ensures, end) at c.in-Ok.ensures.cases.0 in
    (λ (t : IsTrue true). all_from_whole bytes offsets c.requires (rw (c.at-first.ensures, end) at c.in-Ok.ensures.cases.1) (λ k lt. subst (λ text. IsCharBoundary text (get_or offsets k 0 - get_or offsets 0 0)) text (c.each.invariant k (omega arith))), λ (all : All IsUtf8 (strings_of bytes offsets)). refl)
