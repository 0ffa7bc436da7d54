use Rattle.datasketches.proofs.Stepping.{action_fits, step_fits}
use Rattle.datasketches.proofs.laws.steps_keep_histories.Goals as goal

pub returns-clause-action : goal.returns-clause-action
returns-clause-action g c = λ old new action reply a fits step. action_fits _ g.T.PartialEq.eq g.T.Hash.hash_input g.T.FrequentItemValue.codec g.T.FrequentItemValue.content action reply old new a fits step

pub returns-clause-command : goal.returns-clause-command
returns-clause-command g c = λ old new command reply a fits step. step_fits _ g.T.PartialEq.eq g.T.Hash.hash_input g.T.FrequentItemValue.codec g.T.FrequentItemValue.content command reply old new a fits step
