use Rattle.std.proofs.Common.{◌≡◌, [], ◌∷◌, rules}
use Rattle.datasketches.proofs.Stepping.{begins, goes_on, ends, run_fits, run_fits_told, run_keeps_keys, run_has_one_key, nothing_left}
use Rattle.datasketches.proofs.session.Session.run.Goals as goal

pub loop-command-preserved : goal.loop-command-preserved
loop-command-preserved g c =
    let taken : c.loop-command.command-iterator.rest.items ≡ c.in-Some.command ∷ c.next.new.self.rest.items = search rules in
    rw c.push_reserved.ensures.items (goes_on _ g.T.PartialEq.eq g.T.Hash.hash_input g.T.FrequentItemValue.codec g.T.FrequentItemValue.content _ _ _ _ _ _ _ _ _ _ _ c.loop-command.invariant taken c.apply-reply.ensures.step c.push_reserved.ensures.capacity)

pub returns-clause-run : goal.returns-clause-run
returns-clause-run g c =
    let none : c.loop-command.command-iterator.rest.items ≡ [] = nothing_left _ _ c.loop-command.command-iterator.rest.ok.0 (search rules) in
    ends _ g.T.PartialEq.eq g.T.Hash.hash_input g.T.FrequentItemValue.codec g.T.FrequentItemValue.content _ _ _ _ _ _ c.loop-command.invariant none

pub returns-clause-fits : goal.returns-clause-fits
returns-clause-fits g c = λ a fits. run_fits _ g.T.PartialEq.eq g.T.Hash.hash_input g.T.FrequentItemValue.codec g.T.FrequentItemValue.content _ _ _ _ a fits (returns-clause-run g c)

pub returns-clause-told : goal.returns-clause-told
returns-clause-told g c = λ a loaded fits told. run_fits_told _ g.T.PartialEq.eq g.T.Hash.hash_input g.T.FrequentItemValue.codec g.T.FrequentItemValue.content _ loaded _ _ _ a fits told (returns-clause-run g c)

pub loop-command-init : goal.loop-command-init
loop-command-init g c =
    begins _ g.T.PartialEq.eq g.T.Hash.hash_input g.T.FrequentItemValue.codec g.T.FrequentItemValue.content c.args.self.now c.args.commands.items _ _ _ c.into_iter-command-iterator.ensures.into_iter_gives.0 c.in_ok-replies.ensures.items (search rules)

pub returns-clause-keys : goal.returns-clause-keys
returns-clause-keys g c = run_keeps_keys _ g.T.PartialEq.eq g.T.Hash.hash_input g.T.FrequentItemValue.codec g.T.FrequentItemValue.content _ _ _ _ (returns-clause-run g c)

pub returns-clause-keyed : goal.returns-clause-keyed
returns-clause-keyed g c = λ one. run_has_one_key _ g.T.PartialEq.eq g.T.Hash.hash_input g.T.FrequentItemValue.codec g.T.FrequentItemValue.content _ _ _ _ (returns-clause-run g c) one
