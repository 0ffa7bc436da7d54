use Rattle.std.proofs.Common.{refl}
use Rattle.std.proofs.lemmas.Bool.{false≢true}
use Rattle.any_sketch.proofs.count_batches.add_all_weighted.Goals as goal

pub returns-in-Ok : goal.returns-in-Ok
returns-in-Ok g c = record {
  counted = λ fits. (refl, record { counted = c.in-Ok.ensures.counted; stands = c.in-Ok.ensures.stands });
  overflow = λ over. let refused = c.in-Ok.ensures.overflow over in cc;
  refused = tt;
}

pub returns-in-Err : goal.returns-in-Err
returns-in-Err g c = record {
  counted = λ fits. absurd (false≢true (c.in-Err.ensures.succeeds fits));
  overflow = λ over. let refused = c.in-Err.ensures.overflow over in cc;
  refused = c.in-Err.ensures.err;
}
