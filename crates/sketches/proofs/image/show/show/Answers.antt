use Rattle.std.proofs.Common.{inr, ◌∙◌}
use Rattle.sketches.proofs.ImageBytes.{states}
use Rattle.sketches.proofs.image.show.show.Goals as goal

pub returns-clause-err : goal.returns-clause-err
returns-clause-err g c = λ image opened.
    inr (inr (c.in-Err-write_all.ensures.failed, (c.as_bytes.result.now, states c.args.options.now image c.in-Ok.image.items c.deref.result.now c.in-Ok-read_sketch.sketch c.as_bytes.result.now (c.in-Ok.ensures.bytes image opened) c.in-Ok.ensures.fits c.deref.ensures.value c.in-Ok-read_sketch.ensures (c.as_bytes.ensures.value ∙ c.in-Ok-text_of.ensures), c.in-Err-write_all.ensures.front)))
