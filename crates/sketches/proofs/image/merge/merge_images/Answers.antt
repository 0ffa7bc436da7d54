use Rattle.std.proofs.Common.{rules, ◌∙◌}
use Rattle.sketches.proofs.Merged.{merged_first, merged_next, first_rejected, next_rejected, next_too_many}
use Rattle.sketches.proofs.image.merge.merge_images.Goals as goal

pub returns-in_err-sketch-clause-err : goal.returns-in_err-sketch-clause-err
returns-in_err-sketch-clause-err g c =
    search (rules, first_rejected c.args.options.now.max_bytes g.I.Reader.Read.remaining (g.I.Images.images c.args.images.now) (g.I.Images.images c.next.new.self) c.next.result c.in-Some.first c.in_err-sketch.field-0.0 c.next.ensures c.in-Some.is c.in_err-sketch.ensures.read)

pub each-init : goal.each-init
each-init g c = (
  merged_first c.args.options.now.max_bytes g.I.Reader.Read.remaining (g.I.Images.images c.args.images.now) (g.I.Images.images c.next.new.self) c.next.result c.in-Some.first c.in_ok-sketch.sketch c.next.ensures c.in-Some.is c.in_ok-sketch.ensures.read,
  c.in_ok-sketch.ensures.key,
)

pub returns-in_err-other-clause-err : goal.returns-in_err-other-clause-err
returns-in_err-other-clause-err g c =
    search (
      rules,
      next_rejected c.args.options.now.max_bytes g.I.Reader.Read.remaining (g.I.Images.images c.args.images.now) (g.I.Images.images c.each.images) (g.I.Images.images c.next-in-each.new.self) c.next-in-each.result c.in-Some-next.opened
          c.each.sketch c.in_err-other.field-0.0 c.each.invariant.0 c.next-in-each.ensures c.in-Some-next.is c.in_err-other.ensures.read,
    )

pub returns-in_err-add-clause-err : goal.returns-in_err-add-clause-err
returns-in_err-add-clause-err g c =
    search (
      rules,
      next_too_many c.args.options.now.max_bytes g.I.Reader.Read.remaining (g.I.Images.images c.args.images.now) (g.I.Images.images c.each.images) (g.I.Images.images c.next-in-each.new.self) c.next-in-each.result c.in-Some-next.opened
          c.each.sketch c.in_ok-other.other c.in_err-add.field-0.0 c.each.invariant.0 c.next-in-each.ensures c.in-Some-next.is c.in_ok-other.ensures.read c.in_err-add.ensures.err,
    )

pub each-preserved : goal.each-preserved
each-preserved g c = (
  merged_next c.args.options.now.max_bytes g.I.Reader.Read.remaining (g.I.Images.images c.args.images.now) (g.I.Images.images c.each.images) (g.I.Images.images c.next-in-each.new.self) c.next-in-each.result c.in-Some-next.opened
      c.each.sketch c.in_ok-other.other c.add.new.sketch c.each.invariant.0 c.next-in-each.ensures c.in-Some-next.is c.in_ok-other.ensures.read c.in_ok-add.ensures.join c.in_ok-add.ensures.stands c.in_ok-add.ensures.budget c.in_ok-add.ensures.state,
  c.in_ok-add.ensures.key ∙ c.each.invariant.1,
)
