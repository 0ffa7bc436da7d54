use Rattle.std.proofs.Common.{◌≡◌, take, length, ◌∙◌, arith}
use Rattle.std.proofs.lemmas.List.{length-take-le, get_or-take}
use Rattle.sketch_countmin.specs.Table.{IsTableShape}
use Rattle.sketch_countmin.proofs.Tables.{is_state, shape_is}
use Rattle.sketch_countmin.proofs.Views.{view_fields, view_value, view_reads, view_restores}
use Rattle.sketch_countmin.proofs.count_min_view.CountMinView.with_seed.Given as given
use Rattle.sketch_countmin.proofs.count_min_view.CountMinView.with_seed.Goals as goal
use Rattle.sketch_countmin.proofs.count_min_view.CountMinView.with_seed.Goals.{After-row_seeds_of}

-- there is a seed for each row
height : (g : given.Over) (c : After-row_seeds_of g) → length (take c.in_ok-preamble.preamble.num_hashes c.row_seeds_of.result) ≡ c.in_ok-preamble.preamble.num_hashes
height g c = length-take-le c.in_ok-preamble.preamble.num_hashes c.row_seeds_of.result c.row_seeds_of.ensures.rows

-- the shape is one that a sketch may have
shape : (g : given.Over) (c : After-row_seeds_of g) → IsTableShape (take c.in_ok-preamble.preamble.num_hashes c.row_seeds_of.result) c.bucket_count.result c.args.seed
shape g c =
    let p = c.in_ok-preamble.preamble in
    let read = c.in_ok-preamble.ensures in
    shape_is _ c.bucket_count.result c.args.seed p.num_hashes p.num_buckets (height g c) c.bucket_count.ensures read.some_hashes (omega arith) read.some_buckets read.few_cells read.seeded
    (λ r lt. get_or-take p.num_hashes c.row_seeds_of.result r 0 lt ∙ c.row_seeds_of.ensures.seeds r lt)

pub invariant_of-result : goal.invariant_of-result
invariant_of-result g c =
    let now = (goal.at.invariant_of-result g c).After-row_seeds_of in
    view_fields g.T.CountMinValue.least g.T.CountMinValue.greatest c.args.image.now c.bytes_of_cells.result.now c.in_ok-preamble.preamble (take c.in_ok-preamble.preamble.num_hashes c.row_seeds_of.result) c.bucket_count.result c.args.seed (g.T.CountMinValue.number c.in_ok-total.total)
    c.in_ok-preamble.ensures.fields c.in_ok-preamble.ensures.cells c.bytes_of_cells.ensures (height g now) c.bucket_count.ensures c.in_ok-total.ensures.value
    (shape g now) g.met.T.CountMinValue.zero_fits c.in_ok-total.ensures.not_negative c.in_ok-total.ensures.fits

pub returns-clause-value : goal.returns-clause-value
returns-clause-value g c =
    let now = (goal.at.returns-clause-value g c).After-row_seeds_of in
    view_value g.T.CountMinValue.least g.T.CountMinValue.greatest c.args.image.now c.bytes_of_cells.result.now c.in_ok-preamble.preamble (take c.in_ok-preamble.preamble.num_hashes c.row_seeds_of.result) c.bucket_count.result c.args.seed (g.T.CountMinValue.number c.in_ok-total.total)
    c.in_ok-preamble.ensures.fields c.in_ok-preamble.ensures.cells c.bytes_of_cells.ensures (height g now) c.bucket_count.ensures c.in_ok-total.ensures.value
    c.in_ok-preamble.ensures.some_hashes c.in_ok-preamble.ensures.some_buckets

pub returns-clause-reads : goal.returns-clause-reads
returns-clause-reads g c = λ sketch is. returns-clause-value g c ∙ view_reads g.T.CountMinValue.least g.T.CountMinValue.greatest c.args.seed c.args.image.now sketch is

pub returns-clause-state : goal.returns-clause-state
returns-clause-state g c = is_state _ _ _ _ _ _ (invariant_of-result g c).table

pub returns-clause-stands : goal.returns-clause-stands
returns-clause-stands g c = view_restores g.T.CountMinValue.least g.T.CountMinValue.greatest c.args.seed c.args.image.now _ (returns-clause-value g c)
