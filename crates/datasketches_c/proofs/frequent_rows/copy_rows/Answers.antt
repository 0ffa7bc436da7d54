use Rattle.std.proofs.Common.{length, refl, sym, arith}
use Rattle.std.proofs.lemmas.List.{length-take-le}
use Rattle.datasketches_c.proofs.Reports.{rows_stand}
use Rattle.datasketches_c.proofs.frequent_rows.copy_rows.Goals as goal

-- there was room, and all was written
pub returns-clause-written : goal.returns-clause-written
returns-clause-written g c = λ items bounds. (refl, rows_stand c.args.rows.now c.args.items.now c.copy_items.new.items c.args.bounds.now c.copy_bounds.new.bounds c.copy_items.ensures c.copy_bounds.ensures)

pub returns-clause-few_items : goal.returns-clause-few_items
returns-clause-few_items g c = λ few. absurd (omega arith)

pub returns-clause-few_bounds : goal.returns-clause-few_bounds
returns-clause-few_bounds g c = λ few. absurd (omega arith)

pub slice_bounds-copy_items-end : goal.slice_bounds-copy_items-end
slice_bounds-copy_items-end g c = omega arith

pub slice_bounds-copy_items-end-2 : goal.slice_bounds-copy_items-end-2
slice_bounds-copy_items-end-2 g c = sym (length-take-le (length c.args.rows.now) c.args.items.now (omega arith))

pub slice_bounds-copy_bounds-end : goal.slice_bounds-copy_bounds-end
slice_bounds-copy_bounds-end g c = omega arith

pub slice_bounds-copy_bounds-end-2 : goal.slice_bounds-copy_bounds-end-2
slice_bounds-copy_bounds-end-2 g c = sym (length-take-le (length c.args.rows.now) c.args.bounds.now (omega arith))

pub returns-clause-left : goal.returns-clause-left
returns-clause-left g c = record { untouched = tt; uncounted = λ other none. absurd (other refl) }

-- there was no room
pub returns-then-items-needed-clause-left : goal.returns-then-items-needed-clause-left
returns-then-items-needed-clause-left g c = record { untouched = (refl, refl); uncounted = λ other none. absurd (none refl) }
