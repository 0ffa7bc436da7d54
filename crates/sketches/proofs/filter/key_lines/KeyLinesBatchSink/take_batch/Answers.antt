use Rattle.std.proofs.Common.{true, refl, sym, ◌∙◌}
use Rattle.sketch_base.specs.Strings.{strings_at}
use Rattle.sketches.proofs.Batching.{batch}
use Rattle.sketches.proofs.filter.key_lines.KeyLinesBatchSink.take_batch.Goals as goal

pub returns-clause-taken : goal.returns-clause-taken
returns-clause-taken c =
    let s = c.args.self.now in
    let b = batch true c.args._part s.filter (strings_at c.args._raws.now) (strings_at c.args.items.now) c.requires.items in
    (c.insert_all.ensures.insertions ∙ sym b.filter_is, refl)
