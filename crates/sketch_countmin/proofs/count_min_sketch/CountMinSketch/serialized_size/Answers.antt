use Rattle.std.proofs.Common.{◌≡◌, ◌≢◌, ℕ, ◌+◌, ◌*◌, List, length, unsigned_abs, refl, sym, ap, subst, ◌∙◌, arith}
use Rattle.std.proofs.lemmas.Bool.{ne_eqb}
use Rattle.std.proofs.lemmas.Int.{ints}
use Rattle.std.proofs.lemmas.List.{length-map}
use Rattle.sketch_countmin.specs.Image.{IsSpelled, image_bytes}
use Rattle.sketch_countmin.specs.State.{CountState}
use Rattle.sketch_countmin.proofs.ImageLengths.{length-spelled, some_image}
use Rattle.sketch_countmin.proofs.count_min_sketch.CountMinSketch.serialized_size.Goals as goal

pub returns-then-to_number-eq0-clause-some : goal.returns-then-to_number-eq0-clause-some
returns-then-to_number-eq0-clause-some g c =
    let number = g.T.CountMinValue.number in
    let least = g.T.CountMinValue.least in
    let greatest = g.T.CountMinValue.greatest in
    let laws = g.met.T.CountMinValue in
    let s = c.self.inside in
    subst (λ (a : CountState). (image : List ℕ) × IsSpelled least greatest image a) c.self.view_is
    (some_image number g.T.CountMinValue.ZERO least greatest laws.zero_is laws.sum_fits s.grid.row_seeds s.grid.buckets s.seed (number s.total) s.grid.cells c.counts-counts.result.now c.counts-counts.ensures laws.zero_fits c.self.invariant)

pub returns-else-to_number-eq0-clause-some : goal.returns-else-to_number-eq0-clause-some
returns-else-to_number-eq0-clause-some g c =
    let number = g.T.CountMinValue.number in
    let least = g.T.CountMinValue.least in
    let greatest = g.T.CountMinValue.greatest in
    let laws = g.met.T.CountMinValue in
    let s = c.self.inside in
    subst (λ (a : CountState). (image : List ℕ) × IsSpelled least greatest image a) c.self.view_is
    (some_image number g.T.CountMinValue.ZERO least greatest laws.zero_is laws.sum_fits s.grid.row_seeds s.grid.buckets s.seed (number s.total) s.grid.cells c.counts-counts.result.now c.counts-counts.ensures laws.zero_fits c.self.invariant)

pub returns-else-to_number-eq0-clause-each : goal.returns-else-to_number-eq0-clause-each
returns-else-to_number-eq0-clause-each g c =
    let number = g.T.CountMinValue.number in
    let s = c.self.inside in
    let some : unsigned_abs (number s.total) ≢ 0 = λ none. c.if-to_number-eq0.false (omega (arith, ints, none, c.to_number.ensures.value)) in
    let cells : length c.counts-counts.result.now ≡ length s.grid.row_seeds * s.grid.buckets = sym (length-map c.counts-counts.result.now number) ∙ (ap length c.counts-counts.ensures ∙ c.self.invariant.size) in
    let size : 24 + 8 * length c.counts-counts.result.now ≡ image_bytes c.args.self.now =
    subst (λ (a : CountState). 24 + 8 * length c.counts-counts.result.now ≡ image_bytes a) c.self.view_is (rw (ne_eqb _ 0 some, cells) refl) in
    λ image spelled. length-spelled _ _ image c.args.self.now spelled ∙ sym size
