use Rattle.std.proofs.Common.{ℕ, ◌∷◌, drop, get_or, sym, ap, ◌∙◌}
use Rattle.std.specs.List.{slice_range}
use Rattle.sketch_base.specs.Strings.{strings_of}
use Rattle.sketch_base.proofs.ManyStrings.{first_string}
use Rattle.sketch_base.proofs.offset_strings.first_bytes.Goals as goal

pub returns : goal.returns
returns g c =
    let bytes = c.args.bytes.now in
    let offsets = g.O.Offsets.offsets c.args.offsets in
    first_string bytes offsets c.requires.there
    ∙ ap (λ (start : ℕ). slice_range bytes start (get_or offsets 1 0) ∷ strings_of bytes (drop 1 offsets)) (sym c.at.ensures)
    ∙ ap (λ (end : ℕ). slice_range bytes c.at.result end ∷ strings_of bytes (drop 1 offsets)) (sym c.at-2.ensures)
