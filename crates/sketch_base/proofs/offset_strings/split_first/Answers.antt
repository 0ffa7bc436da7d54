use Rattle.std.proofs.Common.{[], ◌∷◌, drop, arith, sym, ap, subst, ◌∙◌}
use Rattle.std.specs.List.{All}
use Rattle.std.specs.Str.{IsUtf8}
use Rattle.sketch_base.specs.Strings.{AreStrings, strings_of}
use Rattle.sketch_base.proofs.ManyStrings.{strings_after}
use Rattle.sketch_base.proofs.offset_strings.split_first.Goals as goal

pub from_utf8_unchecked-first-requires : goal.from_utf8_unchecked-first-requires
from_utf8_unchecked-first-requires g c =
    let whole : All IsUtf8 (c.first_bytes.result.now ∷ strings_of c.args.bytes.now (drop 1 (g.O.Offsets.offsets c.args.offsets))) = subst (All IsUtf8) c.first_bytes.ensures c.requires.strings.utf8 in
    whole 0 [] (omega arith)

pub returns-clause-first : goal.returns-clause-first
returns-clause-first g c =
    let bytes = c.args.bytes.now in
    c.first_bytes.ensures
    ∙ ap (λ string. string ∷ strings_of bytes (drop 1 (g.O.Offsets.offsets c.args.offsets))) (sym c.from_utf8_unchecked-first.ensures)
    ∙ ap (λ rest. c.from_utf8_unchecked-first.result.now ∷ strings_of bytes rest) (sym c.rest.ensures)

pub returns-clause-rest : goal.returns-clause-rest
returns-clause-rest g c = subst (AreStrings c.args.bytes.now) (sym c.rest.ensures) (strings_after c.args.bytes.now (g.O.Offsets.offsets c.args.offsets) c.requires.some c.requires.strings)
