use Rattle.std.proofs.Common.{arith, ◌+◌, ◌≤◌, ◌*◌, inr, refl, subst, sym}
use Rattle.std.proofs.lemmas.Result.{err_from_is_err_and, IfErr-weaker, IfOk-weaker, IfOk-from_err}
use Rattle.sketch_countmin.proofs.Images.{early_first, limit_first, memory_refusal, late_refusal, value_within, empty_image, image_read, restores}
use Rattle.sketch_countmin.specs.State.{CountState}
use Rattle.sketch_countmin.proofs.Numbers.{cells_bytes}
use Rattle.sketch_countmin.proofs.count_min_sketch.CountMinSketch.deserialize_with_options.Goals as goal

pub overflow_mul-num_cells-2 : goal.overflow_mul-num_cells-2
overflow_mul-num_cells-2 g c =
    let size : c.SIZE.result ≤ 8 = omega (arith, c.SIZE.ensures, g.met.T.CountMinValue.size_fits) in
    let bytes = cells_bytes (c.in_ok-preamble.preamble.num_hashes * c.in_ok-preamble.preamble.num_buckets) c.SIZE.result c.in_ok-preamble.ensures.few_cells size in
    omega (arith, bytes)

pub overflow_add-num_cells : goal.overflow_add-num_cells
overflow_add-num_cells g c =
    let size : c.SIZE.result ≤ 8 = omega (arith, c.SIZE.ensures, g.met.T.CountMinValue.size_fits) in
    let bytes = cells_bytes (c.in_ok-preamble.preamble.num_hashes * c.in_ok-preamble.preamble.num_buckets) c.SIZE.result c.in_ok-preamble.ensures.few_cells size in
    omega (arith, bytes)

pub returns-in_err-preamble-clause-err : goal.returns-in_err-preamble-clause-err
returns-in_err-preamble-clause-err g c =
    let p = err_from_is_err_and c.from_residual.result c.from_residual.ensures.1 in
    rw (p.1, p.2) (inr (c.in_err-preamble.ensures.err.0, early_first g.T.CountMinValue.least g.T.CountMinValue.greatest g.T.CountMinValue.SIZE c.args.options.max_bytes c.args.options.seed c.args.image.now _ c.in_err-preamble.ensures.err.1))

pub returns-then-num_cells-SIZE-clause-err : goal.returns-then-num_cells-SIZE-clause-err
returns-then-num_cells-SIZE-clause-err g c = rw c.invalid_data.ensures (inr (refl, limit_first g.T.CountMinValue.least g.T.CountMinValue.greatest g.T.CountMinValue.SIZE c.args.options.max_bytes c.args.options.seed c.args.image.now c.in_ok-preamble.preamble c.in_ok-preamble.ensures.fields c.in_ok-preamble.ensures.checks (rw c.SIZE.ensures at c.if-num_cells-SIZE.true)))

pub returns-then-preamble-clause-image : goal.returns-then-preamble-clause-image
returns-then-preamble-clause-image g c = IfOk-weaker c.empty.result _ _ (empty_image g.T.CountMinValue.least g.T.CountMinValue.greatest c.args.options.seed c.args.image.now c.in_ok-preamble.preamble c.in_ok-preamble.ensures.fields c.if-preamble.true c.in_ok-preamble.ensures.checks) c.empty.ensures.ok

pub returns-then-preamble-clause-err : goal.returns-then-preamble-clause-err
returns-then-preamble-clause-err g c = IfErr-weaker c.empty.result _ _ (memory_refusal g.T.CountMinValue.least g.T.CountMinValue.greatest g.T.CountMinValue.SIZE c.args.options.max_bytes c.args.options.seed c.args.image.now c.in_ok-preamble.preamble c.in_ok-preamble.ensures.fields c.in_ok-preamble.ensures.checks (rw c.SIZE.ensures at c.if-num_cells-SIZE.false)) c.empty.ensures.err

pub returns-else-preamble-clause-image : goal.returns-else-preamble-clause-image
returns-else-preamble-clause-image g c = image_read g.T.CountMinValue.least g.T.CountMinValue.greatest c.args.options.seed c.args.image.now c.with_cells_of.result c.in_ok-preamble.ensures.checks c.with_cells_of.ensures.checks c.with_cells_of.ensures.value

pub returns-else-preamble-clause-err : goal.returns-else-preamble-clause-err
returns-else-preamble-clause-err g c = IfErr-weaker c.with_cells_of.result _ _ (late_refusal g.T.CountMinValue.least g.T.CountMinValue.greatest g.T.CountMinValue.SIZE c.args.options.max_bytes c.args.options.seed c.args.image.now c.in_ok-preamble.preamble c.in_ok-preamble.ensures.fields c.in_ok-preamble.ensures.checks (rw c.SIZE.ensures at c.if-num_cells-SIZE.false)) c.with_cells_of.ensures.err

pub returns-in_err-preamble-clause-image : goal.returns-in_err-preamble-clause-image
returns-in_err-preamble-clause-image g c = IfOk-from_err c.from_residual.result _ c.from_residual.ensures.0

pub returns-in_err-preamble-clause-state : goal.returns-in_err-preamble-clause-state
returns-in_err-preamble-clause-state g c = IfOk-from_err c.from_residual.result _ c.from_residual.ensures.0

pub returns-in_err-preamble-clause-stands : goal.returns-in_err-preamble-clause-stands
returns-in_err-preamble-clause-stands g c = IfOk-from_err c.from_residual.result _ c.from_residual.ensures.0

pub returns-in_err-preamble-clause-within : goal.returns-in_err-preamble-clause-within
returns-in_err-preamble-clause-within g c = IfOk-from_err c.from_residual.result _ c.from_residual.ensures.0

pub returns-then-preamble-clause-state : goal.returns-then-preamble-clause-state
returns-then-preamble-clause-state g c = c.empty.ensures.state

pub returns-else-preamble-clause-state : goal.returns-else-preamble-clause-state
returns-else-preamble-clause-state g c = c.with_cells_of.ensures.state

pub returns-then-preamble-clause-within : goal.returns-then-preamble-clause-within
returns-then-preamble-clause-within g c = IfOk-weaker c.empty.result _ _ (λ s s_is. subst (λ (s : CountState). s.hashes * s.buckets * g.T.CountMinValue.SIZE + 8 * s.hashes ≤ c.args.options.max_bytes) (sym s_is) (rw c.SIZE.ensures at c.if-num_cells-SIZE.false)) c.empty.ensures.ok

pub returns-else-preamble-clause-within : goal.returns-else-preamble-clause-within
returns-else-preamble-clause-within g c = IfOk-weaker c.with_cells_of.result _ _ (value_within g.T.CountMinValue.least g.T.CountMinValue.greatest g.T.CountMinValue.SIZE c.args.options.max_bytes c.args.options.seed c.args.image.now c.in_ok-preamble.preamble c.in_ok-preamble.ensures.fields c.in_ok-preamble.ensures.checks (rw c.SIZE.ensures at c.if-num_cells-SIZE.false)) c.with_cells_of.ensures.value

pub returns-then-preamble-clause-stands : goal.returns-then-preamble-clause-stands
returns-then-preamble-clause-stands g c = IfOk-weaker c.empty.result _ _ (restores g.T.CountMinValue.least g.T.CountMinValue.greatest c.args.options.seed c.args.image.now) (returns-then-preamble-clause-image g c)

pub returns-else-preamble-clause-stands : goal.returns-else-preamble-clause-stands
returns-else-preamble-clause-stands g c = IfOk-weaker c.with_cells_of.result _ _ (restores g.T.CountMinValue.least g.T.CountMinValue.greatest c.args.options.seed c.args.image.now) (returns-else-preamble-clause-image g c)

pub with_cells_of-requires : goal.with_cells_of-requires
with_cells_of-requires g c =
    let read = c.in_ok-preamble.ensures in
    record { fields = read.fields; full = c.if-preamble.false; cells = read.cells c.if-preamble.false; some_hashes = read.some_hashes; some_buckets = read.some_buckets; few_cells = read.few_cells; seeded = read.seeded }

pub empty-requires : goal.empty-requires
empty-requires g c =
    let read = c.in_ok-preamble.ensures in
    record { some_hashes = read.some_hashes; some_buckets = read.some_buckets; few_cells = read.few_cells; seeded = read.seeded }
