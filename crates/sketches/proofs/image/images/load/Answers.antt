use Rattle.counter_table.specs.Bytes.{table_bytes}
use Rattle.sketch_frequencies.specs.Image.{early_fault_within}
use Rattle.sketch_frequencies.specs.Items.{text_codec}
use Rattle.sketches.specs.ImageFailures.{string_row}
use Rattle.sketches.proofs.ImageBytes.{rejected}
use Rattle.sketches.proofs.image.images.load.Goals as goal

pub returns-in-Err-clause-loaded : goal.returns-in-Err-clause-loaded
unfolding table_bytes
returns-in-Err-clause-loaded c = rejected c.args.options.max_bytes c.args.image.now (early_fault_within string_row c.args.options.max_bytes text_codec c.args.image.now) c.in-Err.error c.failure_of.result c.in-Err.ensures.err c.failure_of.ensures.memory c.failure_of.ensures.other
