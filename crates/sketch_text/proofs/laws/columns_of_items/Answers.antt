use Rattle.sketch_text.proofs.CsvReadBack.{csv_back}
use Rattle.sketch_text.proofs.ReadBack.{fields_back, words_back}
use Rattle.sketch_text.proofs.laws.columns_of_items.Goals as goal

pub returns-clause-words : goal.returns-clause-words
returns-clause-words c = words_back

pub returns-clause-fields : goal.returns-clause-fields
returns-clause-fields c = fields_back

pub returns-clause-csv : goal.returns-clause-csv
returns-clause-csv c = csv_back
