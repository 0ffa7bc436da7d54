use Rattle.std.proofs.Common.{◌≡◌, arith}
use Rattle.std.proofs.lemmas.Int.{ints}
use Rattle.sketch_base.specs.Hashes.{fed_bytes}
use Rattle.uses.proofs.Admissions.{touches, touches_full, seen_full, seen_more}
use Rattle.uses.proofs.admission.Admission.touch.Goals as goal

pub returns-then-total_weight-window-clause-step : goal.returns-then-total_weight-window-clause-step
returns-then-total_weight-window-clause-step g c =
    let counted = c.update.new.self in
    let total = c.total_weight.ensures in
    let full : counted.total ≡ c.self.inside.window = omega (arith, ints, total) in
    rw (← c.self.view_is)
    (touches_full c.self.inside.recent counted c.halve.new.self c.self.inside.window (fed_bytes g.K.Hash.hash_input c.args.item) c.in-Ok.ensures.counted full c.halve.ensures.value)

pub returns-then-total_weight-window-clause-seen : goal.returns-then-total_weight-window-clause-seen
returns-then-total_weight-window-clause-seen g c =
    let counted = c.update.new.self in
    let total = c.total_weight.ensures in
    let full : counted.total ≡ c.self.inside.window = omega (arith, ints, total) in
    let shape = c.in-Ok.ensures.counted.shape in
    let halved = c.halve.ensures.value in
    rw (← c.self.view_is)
    (seen_full c.self.inside.recent counted c.halve.new.self c.self.inside.window (fed_bytes g.K.Hash.hash_input c.args.item)
    (rw halved (record { hashes = shape.hashes; buckets = shape.buckets; seed = shape.seed })) c.in-Ok.ensures.stands full c.halve.ensures.stands)

pub returns-else-total_weight-window-clause-step : goal.returns-else-total_weight-window-clause-step
returns-else-total_weight-window-clause-step g c =
    let counted = c.update.new.self in
    let total = c.total_weight.ensures in
    rw (← c.self.view_is)
    (touches c.self.inside.recent counted c.self.inside.window (fed_bytes g.K.Hash.hash_input c.args.item) c.in-Ok.ensures.counted (λ (full : counted.total ≡ c.self.inside.window). omega (arith, ints, total)))

pub returns-else-total_weight-window-clause-seen : goal.returns-else-total_weight-window-clause-seen
returns-else-total_weight-window-clause-seen g c =
    let counted = c.update.new.self in
    let total = c.total_weight.ensures in
    rw (← c.self.view_is)
    (seen_more c.self.inside.recent counted c.self.inside.window (fed_bytes g.K.Hash.hash_input c.args.item)
    c.in-Ok.ensures.counted.shape c.in-Ok.ensures.stands (λ (full : counted.total ≡ c.self.inside.window). omega (arith, ints, total)))
