use Rattle.datasketches_c.proofs.FieldLemmas.{no_weight}
use Rattle.datasketches_c.proofs.fields_argument.chosen_record.Goals as goal

-- no part is the item
pub returns-in_default : goal.returns-in_default
returns-in_default c chosen so = c.in_default.ensures chosen.item so.0

-- no part has the weight
pub returns-in_default-part_of : goal.returns-in_default-part_of
returns-in_default-part_of c chosen so = no_weight c.args.fields.now c.if-fields.false c.in_default-part_of.ensures chosen.weight so.1
