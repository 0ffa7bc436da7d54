use Rattle.sketch_text.proofs.CsvJoined.{joined_records}
use Rattle.sketch_text.proofs.laws.bytes_of_csv_records.Goals as goal

pub returns : goal.returns
returns c = joined_records
