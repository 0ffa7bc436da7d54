use Rattle.std.proofs.Common.{sym, ◌∙◌}
use Rattle.sketch_countmin.proofs.Images.{passes_early}
use Rattle.sketch_countmin.proofs.image.read_preamble.Goals as goal

pub returns-clause-cells : goal.returns-clause-cells
returns-clause-cells c = rw c.u32_at.ensures (passes_early c.args.seed c.args.image.now (sym c.fault_of.ensures ∙ c.in_default.is)).cells

pub returns-clause-some_hashes : goal.returns-clause-some_hashes
returns-clause-some_hashes c = (passes_early c.args.seed c.args.image.now (sym c.fault_of.ensures ∙ c.in_default.is)).some_hashes

pub returns-clause-some_buckets : goal.returns-clause-some_buckets
returns-clause-some_buckets c = rw c.u32_at.ensures (passes_early c.args.seed c.args.image.now (sym c.fault_of.ensures ∙ c.in_default.is)).some_buckets

pub returns-clause-few_cells : goal.returns-clause-few_cells
returns-clause-few_cells c = rw c.u32_at.ensures (passes_early c.args.seed c.args.image.now (sym c.fault_of.ensures ∙ c.in_default.is)).few_cells

pub returns-clause-seeded : goal.returns-clause-seeded
returns-clause-seeded c = (passes_early c.args.seed c.args.image.now (sym c.fault_of.ensures ∙ c.in_default.is)).seeded
