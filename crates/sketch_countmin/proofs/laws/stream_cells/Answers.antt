use Rattle.sketch_countmin.proofs.Streams.{streams_cells}
use Rattle.sketch_countmin.proofs.laws.stream_cells.Goals as goal

pub returns : goal.returns
returns c = streams_cells
