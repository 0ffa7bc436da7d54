use Rattle.sketch_frequencies.proofs.Streams.{streams_enclosed, streams_budget}
use Rattle.sketch_frequencies.proofs.laws.stream_bounds.Goals as goal

pub returns-clause-encloses : goal.returns-clause-encloses
returns-clause-encloses g c = streams_enclosed g.T.PartialEq.eq

pub returns-clause-budget : goal.returns-clause-budget
returns-clause-budget g c = streams_budget g.T.PartialEq.eq
