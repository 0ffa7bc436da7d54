use Rattle.std.proofs.Common.{◌≡◌, ◌<◌, length, arith}
use Rattle.std.specs.Option.{IfSome}
use Rattle.sketches.proofs.ImageBytes.{read_whole}
use Rattle.sketches.proofs.image.images.read_bytes.Goals as goal

pub returns-in-Ok-2-clause-bytes : goal.returns-in-Ok-2-clause-bytes
returns-in-Ok-2-clause-bytes g c =
    let front = c.take-front.result in
    let few : length c.read_to_end.new.buf.items < front.limit = omega (arith, c.if-count-cut.false, c.in-Ok.ensures.ok, c.new-bytes.ensures.len, c.read_to_end.new.buf.ok.0, c.take-front.ensures.limit) in
    let whole : IfSome (g.R.Read.remaining front.inner) (λ image. c.read_to_end.new.buf.items ≡ image) = read_whole (g.R.Read.remaining front.inner) front.limit c.new-bytes.result.items c.read_to_end.new.buf.items c.in-Ok.ensures.bytes c.new-bytes.ensures.items few in
    rw c.take-front.ensures.inner at whole
