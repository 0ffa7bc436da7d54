use Rattle.sketch_frequencies.proofs.SuggestedSizes.{error_by_budget, error_by_size}
use Rattle.sketch_frequencies.proofs.laws.map_size_bounds.Goals as goal

pub returns-clause-budget : goal.returns-clause-budget
returns-clause-budget g c = error_by_budget g.T.PartialEq.eq

pub returns-clause-usual : goal.returns-clause-usual
returns-clause-usual g c = error_by_size g.T.PartialEq.eq
