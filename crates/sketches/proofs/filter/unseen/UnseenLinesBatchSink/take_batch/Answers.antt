use Rattle.std.proofs.Common.{Some, refl, subst, sym, ◌∙◌}
use Rattle.sketch_base.specs.Strings.{strings_at}
use Rattle.sketches.specs.EndedText.{Prints}
use Rattle.sketches.proofs.Batching.{batch}
use Rattle.sketches.proofs.filter.unseen.UnseenLinesBatchSink.take_batch.Goals as goal

pub returns-clause-taken : goal.returns-clause-taken
returns-clause-taken c =
    let s = c.args.self.now in
    let b = batch s.repeated c.args._part s.filter (strings_at c.args.raws.now) (strings_at c.args.items.now) c.requires.items in
    (c.choose_batch.ensures.filter ∙ sym b.filter_is, subst (Prints (Some s.written.bytes.items) (Some c.choose_batch.new.written.bytes.items) s.written.form c.choose_batch.new.written.form) (sym b.written) c.in_ok-others.ensures.written, refl, refl)
