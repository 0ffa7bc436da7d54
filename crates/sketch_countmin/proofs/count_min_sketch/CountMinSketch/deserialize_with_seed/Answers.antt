use Rattle.std.proofs.Common.{◌≤◌, ℕ, ℤ, Result, Ok, Err, List}
use Rattle.std.specs.Prelude.{IfErr}
use Rattle.sketch_base.specs.Checks.{IsImageRefusal}
use Rattle.sketch_base.specs.Errors.{ErrorValue}
use Rattle.sketch_countmin.specs.Image.{early_fault, early_fault_within, first_fault, first_fault_within}
use Rattle.sketch_countmin.proofs.Images.{refusal_without_limit}
use Rattle.sketch_countmin.proofs.count_min_sketch.CountMinSketch.deserialize_with_seed.Goals as goal

-- the greatest limit refuses nothing
refused_without_limit : {A : Type 0} (least : ℤ) (greatest size seed : ℕ) (image : List ℕ) (r : Result A ErrorValue) → size ≤ 8 → IfErr r (IsImageRefusal (early_fault_within size 18446744073709551615 seed image) (first_fault_within least greatest size 18446744073709551615 seed image))
    → IfErr r (IsImageRefusal (early_fault seed image) (first_fault least greatest seed image))
refused_without_limit least greatest size seed image (Ok x) small h = h
refused_without_limit least greatest size seed image (Err e) small h = refusal_without_limit least greatest size seed image e small h

pub returns-clause-err : goal.returns-clause-err
returns-clause-err g c = refused_without_limit g.T.CountMinValue.least g.T.CountMinValue.greatest g.T.CountMinValue.SIZE c.args.seed c.args.image.now c.deserialize_with_options.result g.met.T.CountMinValue.size_fits c.deserialize_with_options.ensures.err
