-- How many records have items that are not UTF-8.
use Rattle.std.specs.Prelude.{◌≡◌, ℕ, ◌+◌, ◌-◌, ◌^◌, List, [], ◌∷◌, min, not, if◌then◌else◌}
use Rattle.std.specs.List.{count_by, list_all}
use Rattle.std.specs.Str.{is_utf8}
use Rattle.sketch_text.specs.Records.{part_in, part_of}
use Rattle.sketches.specs.declared.item.selection.Selection.{Selection}
use Rattle.sketches.specs.declared.item.selection.Selection.TheVariants as selection
use Rattle.sketches.specs.declared.item.weighing.Weighing.{Weighing}
use Rattle.sketches.specs.declared.item.weighing.Weighing.TheVariants as weighing

-- the bytes of a line that its items are made of: its words are made of the whole line
abbrev pub bytes_of_line : Selection → List ℕ → List (List ℕ)
bytes_of_line selection.Words line = line ∷ []
bytes_of_line (selection.Part part) line = part_of part line

-- the bytes of a record that its items are made of
abbrev pub bytes_of : Weighing → List ℕ → List (List ℕ)
bytes_of (weighing.Once chosen) line = bytes_of_line chosen line
bytes_of (weighing.Field part) line = part_of part.item line
bytes_of (weighing.Record chosen) row = part_in chosen.item row

-- the number of records with items that are made of bytes that are not UTF-8
abbrev pub not_utf8_in : Weighing → List (List ℕ) → ℕ
not_utf8_in chosen records = count_by (λ row. not (list_all is_utf8 (bytes_of chosen row))) records

-- the same of one item
abbrev pub not_utf8_of : List ℕ → ℕ
not_utf8_of item = if is_utf8 item then 0 else 1

-- a number grew by `count`, up to `u64::MAX`
abbrev pub GrowsBy : (old count new : ℕ) → Type 0
GrowsBy old count new = min new (2 ^ 64 - 1) ≡ min (old + count) (2 ^ 64 - 1)
