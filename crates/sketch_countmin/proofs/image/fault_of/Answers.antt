use Rattle.std.proofs.Common.{arith, get_or}
use Rattle.sketch_countmin.proofs.Numbers.{cells_fit}
use Rattle.sketch_countmin.proofs.image.fault_of.Goals as goal

pub overflow_mul-num_cells : goal.overflow_mul-num_cells
overflow_mul-num_cells c = record { fits = cells_fit (get_or c.args.image.now 12 0) c.u32_at-num_buckets.result (c.type_inv.image 12).fits c.u32_at-num_buckets.type_inv }

pub overflow_mul-num_cells-then-not-is_empty : goal.overflow_mul-num_cells-then-not-is_empty
overflow_mul-num_cells-then-not-is_empty c = omega (arith, c.if-num_cells-ge-MAX_TABLE_ENTRIES.false)

pub overflow_add-num_cells : goal.overflow_add-num_cells
overflow_add-num_cells c = omega (arith, c.if-num_cells-ge-MAX_TABLE_ENTRIES.false)
