use Rattle.std.proofs.Common.{◌≡◌, ◌*◌, length, drop, arith, ap, ◌∙◌, inr, ℤ, unsigned_abs}
use Rattle.std.proofs.lemmas.Result.{err_from_is_err_and}
use Rattle.sketch_countmin.proofs.Images.{length-numbers_in, total_fault, table_read, value_read, late_passes, cells_refusal}
use Rattle.sketch_countmin.proofs.Numbers.{size_is, size_fits}
use Rattle.sketch_countmin.proofs.Tables.{is_state}
use Rattle.sketch_countmin.proofs.count_min_sketch.CountMinSketch.with_cells_of.Goals as goal

pub new-requires-clause-size : goal.new-requires-clause-size
new-requires-clause-size g c = ap length c.in_ok-counts.ensures.value ∙ length-numbers_in g.T.CountMinValue.least (c.args.preamble.num_hashes * c.args.preamble.num_buckets) (drop 24 c.args.image.now)

pub invariant_of-result : goal.invariant_of-result
invariant_of-result g c =
    let number = g.T.CountMinValue.number in
    let total : ℤ = number c.in_ok-total.total in
    let most : c.unsigned_abs-most.result ≡ unsigned_abs total = size_is c.to_number.result _ _ c.unsigned_abs-most.ensures.value c.to_number.ensures.value c.to_number.ensures.narrow in
    let new = c.in_ok-grid.ensures in
    table_read g.T.CountMinValue.least g.T.CountMinValue.greatest c.in_ok-grid.grid.row_seeds c.in_ok-grid.grid.buckets c.args.seed c.args.preamble.num_hashes c.args.preamble.num_buckets c.unsigned_abs-most.result total c.in_ok-grid.grid.cells _
    new.height new.width c.requires.some_hashes (omega arith) c.requires.some_buckets c.requires.few_cells c.requires.seeded new.seeds c.in_ok-total.ensures.not_negative c.in_ok-total.ensures.fits most
    (new.cells_are ∙ c.in_ok-counts.ensures.value) c.in_ok-counts.ensures.checks

pub returns-clause-state : goal.returns-clause-state
returns-clause-state g c = is_state _ _ _ _ _ _ (invariant_of-result g c)

pub returns-in_err-total-clause-err : goal.returns-in_err-total-clause-err
returns-in_err-total-clause-err g c =
    let p = err_from_is_err_and c.from_residual.result c.from_residual.ensures.1 in
    rw (p.1, p.2) (inr (c.in_err-total.ensures.err.0, total_fault g.T.CountMinValue.least g.T.CountMinValue.greatest c.args.image.now c.args.preamble _ c.requires.fields c.requires.full c.in_err-total.ensures.err.1))

pub returns-clause-value : goal.returns-clause-value
returns-clause-value g c =
    let number = g.T.CountMinValue.number in
    let new = c.in_ok-grid.ensures in
    value_read g.T.CountMinValue.least c.args.image.now c.args.preamble c.requires.fields c.requires.full c.in_ok-grid.grid.row_seeds c.in_ok-grid.grid.buckets c.args.seed (number c.in_ok-total.total) c.in_ok-grid.grid.cells
    new.height new.width c.in_ok-total.ensures.value (new.cells_are ∙ c.in_ok-counts.ensures.value)

pub returns-clause-checks : goal.returns-clause-checks
returns-clause-checks g c =
    let number = g.T.CountMinValue.number in
    let most : c.unsigned_abs-most.result ≡ unsigned_abs (number c.in_ok-total.total) = size_is c.to_number.result _ _ c.unsigned_abs-most.ensures.value c.to_number.ensures.value c.to_number.ensures.narrow in
    late_passes g.T.CountMinValue.least g.T.CountMinValue.greatest c.args.image.now c.args.preamble c.requires.fields c.requires.full c.unsigned_abs-most.result (most ∙ ap unsigned_abs c.in_ok-total.ensures.value) c.in_ok-total.ensures.checks c.in_ok-counts.ensures.checks

pub returns-in_err-counts-clause-err : goal.returns-in_err-counts-clause-err
returns-in_err-counts-clause-err g c =
    let number = g.T.CountMinValue.number in
    let most : c.unsigned_abs-most.result ≡ unsigned_abs (number c.in_ok-total.total) = size_is c.to_number.result _ _ c.unsigned_abs-most.ensures.value c.to_number.ensures.value c.to_number.ensures.narrow in
    let p = err_from_is_err_and c.from_residual-in_err-counts.result c.from_residual-in_err-counts.ensures.1 in
    rw (p.1, p.2) (cells_refusal g.T.CountMinValue.least g.T.CountMinValue.greatest c.args.image.now c.args.preamble c.requires.fields c.requires.full c.unsigned_abs-most.result (most ∙ ap unsigned_abs c.in_ok-total.ensures.value) c.in_ok-total.ensures.checks _ c.in_err-counts.ensures.err)

pub overflow_cast-most : goal.overflow_cast-most
overflow_cast-most g c = record { fits = size_fits c.to_number.result _ c.unsigned_abs-most.ensures.value c.to_number.ensures.narrow }
