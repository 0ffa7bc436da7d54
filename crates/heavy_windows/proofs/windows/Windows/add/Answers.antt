use Rattle.std.proofs.Common.{◌≡◌, [], ◌∷◌, ◌++◌, subst}
use Rattle.std.proofs.lemmas.Result.{on_ok_weaker}
use Rattle.heavy_windows.specs.Histories.{added_history}
use Rattle.heavy_windows.specs.Newest.{newest}
use Rattle.heavy_windows.specs.Stands.{ExtendsEach}
use Rattle.heavy_windows.proofs.Newest.{newest_is}
use Rattle.heavy_windows.proofs.Outcomes.{on_ok_both}
use Rattle.heavy_windows.proofs.Standing.{newest_updated}
use Rattle.heavy_windows.proofs.Steps.{adds_to_newest}
use Rattle.heavy_windows.proofs.windows.Windows.add.Goals as goal

pub returns-clause-adds : goal.returns-clause-adds
returns-clause-adds g c =
    on_ok_weaker c.update_with_count.result
    (λ step fresh. adds_to_newest g.T.PartialEq.eq fresh c.self.inside.older.items c.args.self.now c.self.inside.newest c.update_with_count.new.self c.args.item c.args.weight c.self.view_is (step c.requires.some))
    c.update_with_count.ensures.step

pub returns-clause-stands : goal.returns-clause-stands
returns-clause-stands g c =
    on_ok_both c.update_with_count.result
    (λ stands budget max_map_size. subst (λ ws. ExtendsEach g.T.PartialEq.eq max_map_size ws (c.self.inside.older.items ++ c.update_with_count.new.self ∷ []) (added_history max_map_size c.args.item c.args.weight)) c.self.view_is
    (newest_updated g.T.PartialEq.eq max_map_size c.self.inside.older.items c.self.inside.newest c.update_with_count.new.self c.args.item c.args.weight (stands c.requires.some) (budget c.requires.some)))
    c.update_with_count.ensures.stands c.update_with_count.ensures.budget

pub returns-clause-overflow : goal.returns-clause-overflow
returns-clause-overflow g c = λ fresh over.
    let e : newest fresh c.args.self.now ≡ c.self.inside.newest = newest_is fresh c.self.inside.older.items c.args.self.now c.self.inside.newest c.self.view_is in
    c.update_with_count.ensures.overflow (rw e at over)

pub returns-clause-memory : goal.returns-clause-memory
returns-clause-memory g c = λ fresh fits.
    let e : newest fresh c.args.self.now ≡ c.self.inside.newest = newest_is fresh c.self.inside.older.items c.args.self.now c.self.inside.newest c.self.view_is in
    c.update_with_count.ensures.memory (rw e at fits)

pub returns-clause-succeeds : goal.returns-clause-succeeds
returns-clause-succeeds g c = λ fresh fits stays.
    let e : newest fresh c.args.self.now ≡ c.self.inside.newest = newest_is fresh c.self.inside.older.items c.args.self.now c.self.inside.newest c.self.view_is in
    c.update_with_count.ensures.succeeds (rw e at fits) (rw e at stays)
