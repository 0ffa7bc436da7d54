use Rattle.std.proofs.Common.{arith}
use Rattle.datasketches.proofs.Powers.{shift_fits}
use Rattle.datasketches.proofs.sketch.Sketch.status.Goals as goal

pub overflow_shl-result : goal.overflow_shl-result
overflow_shl-result g c =
    let state = c.num_active_items.ensures.state in
    shift_fits _ _ c.lg_cur_map_size.ensures (omega (arith, state.within, state.greatest))
