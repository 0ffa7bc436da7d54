use Rattle.std.proofs.Common.{◌≡◌, drop}
use Rattle.std.specs.List.{list_any}
use Rattle.sketch_text.specs.Csv.{needs_quotes, text_from, text_of_field}
use Rattle.sketch_text.proofs.csv_fields.has_special_byte.Given as goal

abbrev pub invariant-bytes : goal.invariant-bytes
invariant-bytes l =
    list_any (needs_quotes l.delimiter) (text_of_field l.field) ≡ list_any (needs_quotes l.delimiter) (text_from l.place (drop l.byte-index l.field))
