use Rattle.std.proofs.Common.{◌<◌, length, get_or, false, sym, subst, Some, arith}
use Rattle.sketches.specs.EndedText.{Prints}
use Rattle.sketches.proofs.Batching.{write_step, write_skip, not_true, not_false}
use Rattle.sketches.proofs.Choosing.{skips_it, writes_it}
use Rattle.sketches.proofs.read.batches.write_batch.Goals as goal

pub each-preserved-then-answers-i : goal.each-preserved-then-answers-i
each-preserved-then-answers-i c =
    let less : c.each.i < length c.args.answers.now = omega (arith, c.each-test.true, c.requires) in
    let answer = get_or c.args.answers.now c.each.i false in
    write_skip c.args.wanted c.args.answers.now c.args.raws.now c.each.i false _ c.each.written.bytes.items _ c.each.written.form less c.each-test.true c.each.invariant
    (λ raw. skips_it c.args.wanted answer raw (not_true _ c.if-answers-i.true))

pub each-preserved : goal.each-preserved
each-preserved c =
    let less : c.each.i < length c.args.answers.now = omega (arith, c.each-test.true, c.requires) in
    let answer = get_or c.args.answers.now c.each.i false in
    write_step c.args.wanted c.args.answers.now c.args.raws.now c.each.i false _ _ c.each.written.bytes.items c.push.new.self.bytes.items _ c.each.written.form c.push.new.self.form less c.each-test.true c.each.invariant
    (subst (Prints (Some c.each.written.bytes.items) (Some c.push.new.self.bytes.items) c.each.written.form c.push.new.self.form)
    (sym (writes_it c.args.wanted answer _ (not_false _ c.if-answers-i.false))) c.in_ok-push.ensures)
