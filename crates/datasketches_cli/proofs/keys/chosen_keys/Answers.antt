use Rattle.std.proofs.Common.{refl}
use Rattle.datasketches_cli.proofs.keys.chosen_keys.Goals as goal

pub returns-in-Plain : goal.returns-in-Plain
returns-in-Plain c = rw c.in-Plain.is refl

pub returns-in-Bytes : goal.returns-in-Bytes
returns-in-Bytes c = rw c.in-Bytes.is (rw c.from_bytes-table.ensures at c.keys_under.ensures.table)
