use Rattle.std.proofs.Common.{refl, ◌∙◌}
use Rattle.sketches.proofs.OutputFronts.{written_none, written_more}
use Rattle.sketches.proofs.print.output.WatchedOutput.write_all.Goals as goal

pub each-init : goal.each-init
each-init g c = (written_none (g.W.Write.contents c.args.self.now.inner) c.args.bytes.now, refl)

pub each-preserved : goal.each-preserved
each-preserved g c =
    let e = c.in-Ok.ensures in (
      written_more (g.W.Write.contents c.args.self.now.inner) (g.W.Write.contents c.each.self.inner) (g.W.Write.contents c.write_some.new.self.inner) c.args.bytes.now c.each.rest.now c.in-Ok.count c.each.invariant.0 e.bytes,
      e.kept ∙ c.each.invariant.1,
    )
