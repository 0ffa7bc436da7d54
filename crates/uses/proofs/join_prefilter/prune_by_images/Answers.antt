use Rattle.uses.proofs.join_prefilter.prune_by_images.Goals as goal

pub returns-clause-none_that_joins : goal.returns-clause-none_that_joins
returns-clause-none_that_joins g c = λ parts zip. c.prune.ensures.join parts (c.in_ok-prefilter.ensures.passes parts zip)
