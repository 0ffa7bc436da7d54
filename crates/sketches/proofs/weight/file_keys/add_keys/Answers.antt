use Rattle.std.proofs.lemmas.Result.{err_from_is_err_and}
use Rattle.sketch_text.specs.Records.{records_by}
use Rattle.sketches.proofs.TakenKeys.{keys_begun, keys_failed, keys_more}
use Rattle.sketches.proofs.weight.file_keys.add_keys.Goals as goal

pub each-init : goal.each-init
each-init c = (keys_begun c.args.part c.args.sums.now.entries c.args.order.now.items (records_by c.args.part c.args.bytes.now), λ small. small)

pub each-preserved : goal.each-preserved
each-preserved c = (
  keys_more c.args.part c.args.sums.now.entries c.each.sums.entries c.add_record.new.sums.entries c.args.order.now.items c.each.order.items c.add_record.new.order.items (records_by c.args.part c.args.bytes.now) (records_by c.args.part c.each.rest.now) (records_by c.args.part c.in-Some.after.now) c.in-Some.row.now c.each.invariant.0 c.in-Some.ensures.taken.0 c.in_ok-add_record.ensures.taken,
  λ small. c.in_ok-add_record.ensures.within (c.each.invariant.1 small),
)

pub returns-in_err-add_record-clause-failed : goal.returns-in_err-add_record-clause-failed
returns-in_err-add_record-clause-failed c =
    let e = err_from_is_err_and c.from_residual.result c.from_residual.ensures.1 in
    rw (e.1, e.2) (keys_failed c.args.part c.args.max_keys c.args.sums.now.entries c.each.sums.entries c.args.order.now.items c.each.order.items (records_by c.args.part c.args.bytes.now) (records_by c.args.part c.each.rest.now) (records_by c.args.part c.in-Some.after.now) c.in-Some.row.now _ c.each.invariant.0 c.in-Some.ensures.taken.0 c.in_err-add_record.ensures.failed)
