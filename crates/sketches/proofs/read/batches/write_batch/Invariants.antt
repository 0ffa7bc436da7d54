use Rattle.std.proofs.Common.{◌++◌, drop}
use Rattle.sketch_base.specs.Strings.{strings_at}
use Rattle.sketches.specs.EndedText.{form_after_all, text_of}
use Rattle.sketches.specs.Unseen.{written_by}
use Rattle.sketches.proofs.Batching.{Leaves}
use Rattle.sketches.proofs.read.batches.write_batch.Given as goal

abbrev pub invariant-each : goal.invariant-each
invariant-each l =
    Leaves (l.initial.written.bytes.items ++ text_of l.initial.written.form (written_by l.wanted l.answers (strings_at l.raws))) (form_after_all l.initial.written.form (written_by l.wanted l.answers (strings_at l.raws)))
    l.written.bytes.items l.written.form (written_by l.wanted (drop l.i l.answers) (strings_at (drop l.i l.raws)))
