use Rattle.std.proofs.Common.{◌≡◌, ◌≢◌, length, pos, subst, ◌∙◌, refl, arith}
use Rattle.std.proofs.lemmas.Int.{ints}
use Rattle.sketch_base.specs.Hashes.{seed_hash}
use Rattle.sketch_countmin.specs.Image.{IsSpelled}
use Rattle.sketch_countmin.specs.State.{CountState}
use Rattle.sketch_countmin.proofs.ImageLengths.{cells_in_range}
use Rattle.sketch_countmin.proofs.Spellings.{spelled_empty, spelled_full}
use Rattle.sketch_countmin.proofs.count_min_sketch.CountMinSketch.serialize.Goals as goal

pub returns-then-to_number-eq0-clause-image : goal.returns-then-to_number-eq0-clause-image
returns-then-to_number-eq0-clause-image g c =
    let number = g.T.CountMinValue.number in
    let s = c.self.inside in
    let image = c.in_ok-empty.empty.items in
    let none : number s.total ≡ pos 0 = omega (arith, ints, c.if-to_number-eq0.true, c.to_number.ensures.value, c.to_number.ensures.narrow) in
    let rows : c.num_rows-num_hashes.result ≡ length s.grid.row_seeds = c.num_rows-num_hashes.ensures in
    let buckets : c.divisor-num_buckets.result ≡ s.grid.buckets = c.divisor-num_buckets.ensures.value ∙ c.buckets.ensures in
    let hash : c.in-Ok.hash ≡ seed_hash s.seed = c.in-Ok.ensures.value.0 in
    subst (λ (a : CountState). IsSpelled g.T.CountMinValue.least g.T.CountMinValue.greatest image a) c.self.view_is
    (spelled_empty g.T.CountMinValue.least g.T.CountMinValue.greatest image s.grid.row_seeds s.grid.buckets s.seed (number s.total) s.grid.cells g.met.T.CountMinValue.zero_fits c.self.invariant none
    (c.in_ok-empty.ensures ∙ rw (rows, buckets, hash) refl))

pub returns-clause-image : goal.returns-clause-image
returns-clause-image g c =
    let number = g.T.CountMinValue.number in
    let laws = g.met.T.CountMinValue in
    let s = c.self.inside in
    let image = c.in_ok-full.full.items in
    let some : number s.total ≢ pos 0 = λ none. c.if-to_number-eq0.false (omega (arith, ints, none, c.to_number.ensures.value)) in
    let rows : c.num_rows-num_hashes.result ≡ length s.grid.row_seeds = c.num_rows-num_hashes.ensures in
    let buckets : c.divisor-num_buckets.result ≡ s.grid.buckets = c.divisor-num_buckets.ensures.value ∙ c.buckets.ensures in
    let hash : c.in-Ok.hash ≡ seed_hash s.seed = c.in-Ok.ensures.value.0 in
    let fit = cells_in_range number g.T.CountMinValue.ZERO g.T.CountMinValue.least g.T.CountMinValue.greatest laws.zero_is laws.sum_fits s.grid.row_seeds s.grid.buckets s.seed (number s.total) s.grid.cells c.counts-counts.result.now c.counts-counts.ensures c.self.invariant in
    subst (λ (a : CountState). IsSpelled g.T.CountMinValue.least g.T.CountMinValue.greatest image a) c.self.view_is
    (spelled_full g.T.CountMinValue.least g.T.CountMinValue.greatest image s.grid.row_seeds s.grid.buckets s.seed (number s.total) s.grid.cells laws.zero_fits c.self.invariant some fit
    (c.in_ok-full.ensures ∙ rw (c.counts-counts.ensures, rows, buckets, hash) refl))
