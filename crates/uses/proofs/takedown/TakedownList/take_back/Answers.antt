use Rattle.std.proofs.Common.{◌≡◌, map, ap, ◌∙◌}
use Rattle.sketch_base.specs.Hashes.{fed_bytes}
use Rattle.sketch_bloom.specs.State.{FilterState, all_inserted, cleared}
use Rattle.uses.proofs.Takedowns.{batch_fits, gone_either, no_more_either, never_refused, follows_either}
use Rattle.uses.proofs.takedown.TakedownList.take_back.Goals as goal

pub returns-clause-follows : goal.returns-clause-follows
returns-clause-follows g c =
    rw (← c.self.view_is)
    (follows_either c.self.inside.refused c.reset.new.self c.insert_all.new.self c.difference.new.self (map (fed_bytes g.T.Hash.hash_input) c.args.items.now) c.difference.result
    (c.reset.ensures.cleared ∙ ap cleared c.in_ok-batch.ensures.ok) c.insert_all.ensures.stands c.difference.ensures.stands c.difference.ensures.ok)

pub returns-clause-gone : goal.returns-clause-gone
returns-clause-gone g c =
    let items = map (fed_bytes g.T.Hash.hash_input) c.args.items.now in
    let batch : c.insert_all.new.self ≡ all_inserted (cleared c.self.inside.refused) items =
    c.insert_all.ensures.insertions ∙ ap (λ (s : FilterState). all_inserted s items) (c.reset.ensures.cleared ∙ ap cleared c.in_ok-batch.ensures.ok) in
    gone_either c.membership.ensures.inserted c.difference_takes_and_leaves.ensures.takes_away c.self.inside.refused c.insert_all.new.self c.difference.new.self items c.difference.result
    batch c.insert_all.ensures.state c.difference.ensures.ok

pub returns-clause-no_more : goal.returns-clause-no_more
returns-clause-no_more g c =
    rw (← c.self.view_is)
    (no_more_either c.difference_takes_and_leaves.ensures.adds_nothing c.self.inside.refused c.insert_all.new.self c.difference.new.self c.difference.result c.difference.ensures.ok)

pub returns-clause-memory : goal.returns-clause-memory
returns-clause-memory g c =
    let items = map (fed_bytes g.T.Hash.hash_input) c.args.items.now in
    let batch : c.insert_all.new.self ≡ all_inserted (cleared c.self.inside.refused) items =
    c.insert_all.ensures.insertions ∙ ap (λ (s : FilterState). all_inserted s items) (c.reset.ensures.cleared ∙ ap cleared c.in_ok-batch.ensures.ok) in
    never_refused _ c.difference.result (c.difference.ensures.accepted.1 (batch_fits c.self.inside.refused c.insert_all.new.self items batch))
