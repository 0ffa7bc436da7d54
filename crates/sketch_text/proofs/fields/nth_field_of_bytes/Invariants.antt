use Rattle.std.proofs.Common.{◌≡◌, drop}
use Rattle.sketch_text.proofs.Delimited.{fields_of}
use Rattle.sketch_text.proofs.fields.nth_field_of_bytes.Given as goal

abbrev pub invariant-fields : goal.invariant-fields
invariant-fields l = drop l.at (fields_of l.delimiter l.bytes) ≡ fields_of l.delimiter l.rest
