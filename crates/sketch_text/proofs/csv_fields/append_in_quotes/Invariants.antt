use Rattle.std.proofs.Common.{◌≡◌, ◌++◌, drop}
use Rattle.std.specs.List.{flat_map}
use Rattle.sketch_text.specs.Csv.{in_quotes_as, text_from, text_of_field}
use Rattle.sketch_text.proofs.csv_fields.append_in_quotes.Given as goal

abbrev pub invariant-bytes : goal.invariant-bytes
invariant-bytes l =
    l.initial.text.items ++ flat_map in_quotes_as (text_of_field l.field) ≡ l.text.items ++ flat_map in_quotes_as (text_from l.place (drop l.byte-index l.field))
