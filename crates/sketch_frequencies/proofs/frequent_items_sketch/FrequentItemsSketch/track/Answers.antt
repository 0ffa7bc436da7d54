use Rattle.std.proofs.Common.{subst}
use Rattle.sketch_frequencies.specs.State.{IsState}
use Rattle.sketch_frequencies.proofs.UpdateParts.{room_made, step_from}
use Rattle.sketch_frequencies.proofs.frequent_items_sketch.FrequentItemsSketch.track.Goals as goal

pub add-requires-clause-room : goal.add-requires-clause-room
add-requires-clause-room g c = room_made g.met.T.Eq.laws c.args.self.now c.make_room.new.self c.args.item c.args.count (subst (λ s. IsState g.T.PartialEq.eq s) c.self.view_is c.self.invariant) c.requires.absent c.in_ok-make_room.ensures.ok

pub returns-clause-step : goal.returns-clause-step
returns-clause-step g c = step_from g.met.T.Eq.laws c.args.self.now c.make_room.new.self c.args.item c.args.count (subst (λ s. IsState g.T.PartialEq.eq s) c.self.view_is c.self.invariant) c.requires.absent c.in_ok-make_room.ensures.ok c.add.new.self c.add.ensures.adds
