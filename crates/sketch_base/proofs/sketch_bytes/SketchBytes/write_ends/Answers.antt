use Rattle.std.proofs.Common.{◌++◌, ap, ◌∙◌}
use Rattle.std.proofs.lemmas.Result.{on_ok_weaker}
use Rattle.sketch_base.proofs.BothEnds.{both_ends}
use Rattle.sketch_base.proofs.sketch_bytes.SketchBytes.write_ends.Goals as goal

pub returns-clause-ok : goal.returns-clause-ok
returns-clause-ok g c =
    let whole = both_ends g.row.WIDTH c.args.part.now c.copy_from_slice.new.self c.copy_from_slice-2.new.self c.requires.at_least c.requires.at_most c.copy_from_slice.ensures.after c.copy_from_slice-2.ensures.after in
    on_ok_weaker c.write_overlapping.result (λ wrote. wrote ∙ ap (λ l. c.args.self.now.bytes ++ l) whole) c.write_overlapping.ensures.ok
