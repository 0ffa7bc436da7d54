-- The items of lines.
use Rattle.std.specs.Prelude.{ℕ, List}
use Rattle.std.specs.List.{flat_map}
use Rattle.std.specs.Str.Lossy.{utf8_lossy}
use Rattle.std.specs.Str.Lines.{lines}
use Rattle.sketch_base.specs.Split.{words_of}
use Rattle.sketch_text.specs.Records.{part_of}
use Rattle.sketches.specs.declared.item.selection.Selection.{Selection}
use Rattle.sketches.specs.declared.item.selection.Selection.TheVariants as selection

-- the items of a line
abbrev pub items_of_line : Selection → List ℕ → List (List ℕ)
items_of_line selection.Words line = words_of line
items_of_line (selection.Part part) line = part_of part line

-- the items of a line of bytes, with U+FFFD for each sequence that is not UTF-8
abbrev pub items_of_raw_line : Selection → List ℕ → List (List ℕ)
items_of_raw_line chosen line = items_of_line chosen (utf8_lossy line)

-- the items of an input: those of each of its lines
abbrev pub items_of : Selection → List ℕ → List (List ℕ)
items_of chosen bytes = flat_map (items_of_raw_line chosen) (lines bytes)
