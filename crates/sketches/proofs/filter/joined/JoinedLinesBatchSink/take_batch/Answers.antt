use Rattle.std.proofs.Common.{Some, refl, subst, sym}
use Rattle.sketch_base.specs.Strings.{strings_at}
use Rattle.sketches.specs.EndedText.{Prints}
use Rattle.sketches.proofs.Batching.{joined_batch}
use Rattle.sketches.proofs.filter.joined.JoinedLinesBatchSink.take_batch.Goals as goal

pub returns-clause-taken : goal.returns-clause-taken
returns-clause-taken c =
    let s = c.args.self.now in
    let b = joined_batch s.wanted c.args._part s.filter (strings_at c.args.raws.now) (strings_at c.args.items.now) c.requires.items in
    (subst (Prints (Some s.written.bytes.items) (Some c.join_batch.new.written.bytes.items) s.written.form c.join_batch.new.written.form) (sym b) c.in_ok-others.ensures.written, refl, refl, refl)
