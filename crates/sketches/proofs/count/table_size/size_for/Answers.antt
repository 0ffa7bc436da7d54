use Rattle.std.proofs.Common.{refl, arith}
use Rattle.sketch_frequencies.specs.SuggestedSizes.{usual_budget}
use Rattle.sketches.proofs.Shares.{few_parts, parts_within, within_share}
use Rattle.sketches.proofs.count.table_size.size_for.Goals as goal

pub returns-in-Ok-clause-share : goal.returns-in-Ok-clause-share
returns-in-Ok-clause-share c n total bound =
    within_share 100000000 c.args.error.millionths c.div_ceil-parts.result (usual_budget c.in-Ok.size) n total (omega (arith, c.if-error-eq0.false)) c.div_ceil-parts.ensures c.in-Ok.ensures.enough bound

pub returns-in-Ok-clause-least : goal.returns-in-Ok-clause-least
returns-in-Ok-clause-least c m allowed enough =
    c.in-Ok.ensures.least m allowed (parts_within 100000000 c.args.error.millionths c.div_ceil-parts.result (usual_budget m) (omega (arith, c.if-error-eq0.false)) c.div_ceil-parts.ensures enough)

pub returns-in-Err-clause-refused : goal.returns-in-Err-clause-refused
returns-in-Err-clause-refused c = (
  refl,
  λ m. few_parts 100000000 c.args.error.millionths c.div_ceil-parts.result (usual_budget m) (omega (arith, c.if-error-eq0.false)) c.div_ceil-parts.ensures (c.in-Err.ensures.refused.1 m),
)
