use Rattle.sketch_base.proofs.PartsUtf8.{nth_utf8}
use Rattle.sketch_text.proofs.Delimited.{fields_of, fields_utf8}
use Rattle.sketch_text.proofs.fields.nth_field.Goals as goal

pub from_utf8_unchecked-requires : goal.from_utf8_unchecked-requires
from_utf8_unchecked-requires c =
    nth_utf8 c.args.index (fields_of c.args.delimiter c.as_bytes.result.now) c.in_ok-field.field.now (fields_utf8 c.args.delimiter c.as_bytes.result.now c.requires.ascii c.as_bytes.ensures.utf8) c.in_ok-field.ensures
