use Rattle.std.proofs.Common.{◌-◌, length}
use Rattle.sketch_text.proofs.CsvRecords.{HasDone}
use Rattle.sketch_text.proofs.csv_records.finished_csv_records.Given as goal

abbrev pub invariant-records : goal.invariant-records
invariant-records l = HasDone l.delimiter l.fn.place l.bytes l.done l.here

abbrev pub decreases-records : goal.decreases-records
decreases-records l = length l.bytes - l.done
