use Rattle.std.proofs.Common.{arith, ap, ◌∙◌, length, ◌≡◌, ◌+◌, ◌*◌, ◌<◌, ◌≤◌, ◌^◌}
use Rattle.sketch_countmin.specs.State.{CountState}
use Rattle.sketch_countmin.proofs.Numbers.{cells_bytes}
use Rattle.sketch_countmin.proofs.count_min_sketch.CountMinSketch.estimated_size.Goals as goal

pub overflow_mul-result : goal.overflow_mul-result
overflow_mul-result g c =
    let size : c.SIZE.result ≤ 8 = omega (arith, c.SIZE.ensures, g.met.T.CountMinValue.size_fits) in
    let few : c.num_cells.result < 2 ^ 30 = omega (arith, c.num_cells.ensures, c.self.invariant.size, c.self.invariant.few_cells) in
    omega (arith, cells_bytes c.num_cells.result c.SIZE.result few size)

pub overflow_add-result : goal.overflow_add-result
overflow_add-result g c =
    let size : c.SIZE.result ≤ 8 = omega (arith, c.SIZE.ensures, g.met.T.CountMinValue.size_fits) in
    let few : c.num_cells.result < 2 ^ 30 = omega (arith, c.num_cells.ensures, c.self.invariant.size, c.self.invariant.few_cells) in
    omega (arith, cells_bytes c.num_cells.result c.SIZE.result few size)

pub returns : goal.returns
returns g c =
    let s = c.self.inside in
    let cells : c.num_cells.result ≡ length s.grid.row_seeds * s.grid.buckets = c.num_cells.ensures ∙ c.self.invariant.size in
    let rows : c.num_rows.result ≡ length s.grid.row_seeds = c.num_rows.ensures in
    rw (cells, rows, c.SIZE.ensures) (ap (λ (v : CountState). v.hashes * v.buckets * g.T.CountMinValue.SIZE + 8 * v.hashes) c.self.view_is)
