use Rattle.std.proofs.Common.{true, false, ◌<◌, ◌≤◌, [], length, refl, subst, arith, sym}
use Rattle.std.specs.Prelude.{IsTrue}
use Rattle.std.specs.List.{All}
use Rattle.std.specs.Str.{IsUtf8}
use Rattle.std.proofs.lemmas.Bool.{false≢true}
use Rattle.std.proofs.lemmas.List.{take_all}
use Rattle.std.proofs.lemmas.List.Elements.{All-more}
use Rattle.sketch_base.specs.Strings.{strings_at}
use Rattle.sketch_base.proofs.ManyStrings.{length-strings_at, get_or-strings_at}
use Rattle.sketch_base.proofs.byte_strings.are_utf8.Goals as goal

-- a string is not UTF-8
pub returns-in_default : goal.returns-in_default
returns-in_default c =
    let items = c.args.items.now in
    let placed : c.each.i < length items = c.each-test.true in
    let there : c.each.i < length (strings_at items) = omega (arith, length-strings_at items) in
    (λ (t : IsTrue false). absurd (false≢true t), λ (all : All IsUtf8 (strings_at items)). absurd (c.in_default.ensures.cases.0 (subst IsUtf8 (get_or-strings_at items c.each.i _ placed) (all c.each.i [] there))))

pub each-preserved : goal.each-preserved
each-preserved c =
    let items = c.args.items.now in
    let placed : c.each.i < length items = c.each-test.true in
    let there : c.each.i < length (strings_at items) = omega (arith, length-strings_at items) in
    All-more IsUtf8 (strings_at items) c.each.i [] there c.each.invariant (subst IsUtf8 (sym (get_or-strings_at items c.each.i _ placed)) c.in-Ok.ensures.cases.1)

pub returns : goal.returns
returns c =
    let strings = strings_at c.args.items.now in
    let here : length strings ≤ c.each.i = omega (arith, length-strings_at c.args.items.now) in
    (λ (t : IsTrue true). subst (All IsUtf8) (take_all c.each.i strings here) c.each.invariant, λ (all : All IsUtf8 strings). refl)
