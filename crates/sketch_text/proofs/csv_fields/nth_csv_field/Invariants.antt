use Rattle.std.proofs.Common.{◌≡◌, drop}
use Rattle.sketch_text.proofs.CsvFields.{parts_of}
use Rattle.sketch_text.proofs.csv_fields.nth_csv_field.Given as goal

abbrev pub invariant-fields : goal.invariant-fields
invariant-fields l = drop l.at (parts_of l.delimiter l.row) ≡ parts_of l.delimiter l.rest
