use Rattle.std.proofs.Common.{[], ◌∷◌, take}
use Rattle.sketch_base.specs.Strings.{strings_at}
use Rattle.sketches.specs.RecordParts.{raws_by}
use Rattle.sketches.proofs.TakenBatches.{front_more}
use Rattle.sketches.proofs.read.batches.take_batches.Goals as goal

pub each-preserved-then-count-gt0 : goal.each-preserved-then-count-gt0
each-preserved-then-count-gt0 g c =
    let p = c.args.part in
    front_more (g.S.BatchSink.takes p) (g.met.S.BatchSink.takes_both p) (raws_by p c.args.bytes.now) (raws_by p c.each.rest.now) (strings_at (take c.next_lines-count.result.0 c.next_lines-count.new.raws)) (raws_by p c.next_lines-count.result.1.now)
    c.args.sink.now c.each.sink c.take_batch.new.self c.each.invariant c.next_lines-count.ensures.lines.parts c.in_ok-take_batch.ensures.taken

pub each-preserved : goal.each-preserved
each-preserved g c =
    let p = c.args.part in
    front_more (g.S.BatchSink.takes p) (g.met.S.BatchSink.takes_both p) (raws_by p c.args.bytes.now) (raws_by p c.each.rest.now) (c.in-Some.raw.now ∷ []) (raws_by p c.in-Some.after.now)
    c.args.sink.now c.each.sink c.take_record.new.self c.each.invariant c.in-Some.ensures.taken.0 c.in_ok-take_record.ensures.taken
