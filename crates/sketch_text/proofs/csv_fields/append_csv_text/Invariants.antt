use Rattle.std.proofs.Common.{◌≡◌, ◌++◌, drop}
use Rattle.sketch_text.specs.Csv.{text_from, text_of_field}
use Rattle.sketch_text.proofs.csv_fields.append_csv_text.Given as goal

abbrev pub invariant-bytes : goal.invariant-bytes
invariant-bytes l = l.initial.text.items ++ text_of_field l.field ≡ l.text.items ++ text_from l.place (drop l.byte-index l.field)
