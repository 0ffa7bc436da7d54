use Rattle.datasketches.proofs.Promised.{stranger_is}
use Rattle.datasketches.proofs.Stepping.{action_fits_told, step_fits_told}
use Rattle.datasketches.proofs.Taking.{load_keeps_shown}
use Rattle.datasketches.proofs.laws.loads_keep_histories.Goals as goal

pub returns-clause-action : goal.returns-clause-action
returns-clause-action g c = λ old new action reply a loaded fits told step. action_fits_told _ g.T.PartialEq.eq g.T.Hash.hash_input g.T.FrequentItemValue.codec g.T.FrequentItemValue.content action loaded reply old new a fits told step

pub returns-clause-told : goal.returns-clause-told
returns-clause-told g c = λ old new command reply a loaded fits told step. step_fits_told _ g.T.PartialEq.eq g.T.Hash.hash_input g.T.FrequentItemValue.codec g.T.FrequentItemValue.content command loaded reply old new a fits told step

pub returns-clause-shown : goal.returns-clause-shown
returns-clause-shown g c = load_keeps_shown _ g.T.PartialEq.eq g.T.Hash.hash_input g.T.FrequentItemValue.codec g.T.FrequentItemValue.content

pub returns-clause-strangers : goal.returns-clause-strangers
returns-clause-strangers g c = stranger_is g.T.PartialEq.eq g.T.FrequentItemValue.codec g.T.FrequentItemValue.content
