use Rattle.sketches.proofs.Saved.{image_written, not_saved}
use Rattle.sketches.proofs.image.save.write_image.Goals as goal

pub returns-in-Err-clause-err : goal.returns-in-Err-clause-err
returns-in-Err-clause-err g c = not_saved c.args.sketch.now c.in-Err.error c.failure_of.result c.in-Err.ensures.err c.failure_of.ensures.memory c.failure_of.ensures.other

pub returns-in-Ok-write_all-clause-image : goal.returns-in-Ok-write_all-clause-image
returns-in-Ok-write_all-clause-image g c =
    image_written c.args.sketch.now (g.W.Write.contents c.args.writer.now) (g.W.Write.contents c.write_all.new.self) c.in-Ok.image.items c.in-Ok.ensures.image (rw c.deref.ensures.value at c.in-Ok-write_all.ensures.bytes)
