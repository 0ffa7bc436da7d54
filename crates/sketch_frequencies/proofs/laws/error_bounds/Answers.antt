use Rattle.sketch_frequencies.proofs.Bounds.{error_sampled, error_small, error_large}
use Rattle.sketch_frequencies.proofs.laws.error_bounds.Goals as goal

pub returns-clause-sampled : goal.returns-clause-sampled
returns-clause-sampled g c = error_sampled g.T.PartialEq.eq

pub returns-clause-small : goal.returns-clause-small
returns-clause-small g c = error_small g.T.PartialEq.eq

pub returns-clause-large : goal.returns-clause-large
returns-clause-large g c = error_large g.T.PartialEq.eq
