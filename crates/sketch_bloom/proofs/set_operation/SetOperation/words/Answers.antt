use Rattle.std.proofs.Common.{sym, ap, ◌∙◌, bit_and, w64}
use Rattle.std.specs.Int.{bit_not}
use Rattle.std.specs.Simd.Lanes.{zip2}
use Rattle.sketch_bloom.specs.declared.set_operation.SetOperation.{SetOperation}
use Rattle.sketch_bloom.specs.Operations.{on_words}
use Rattle.sketch_bloom.proofs.Lanes.{zip2-map_right}
use Rattle.sketch_bloom.proofs.set_operation.SetOperation.words.Goals as goal
use Rattle.sketch_bloom.proofs.set_operation.SetOperation.words.Goals.{in-Union, in-Intersection, in-Difference}

pub returns : goal.returns
returns g c = elim c.match-self.branch [
  | in-Union w ↦ w.result-is ∙ ap (λ (o : SetOperation). zip2 (on_words o) c.args.mine c.args.theirs) (sym w.in-Union.is)
  | in-Intersection w ↦ w.result-is ∙ ap (λ (o : SetOperation). zip2 (on_words o) c.args.mine c.args.theirs) (sym w.in-Intersection.is)
  | in-Difference w ↦
      w.result-is
      ∙ (zip2-map_right bit_and (bit_not w64) c.args.mine c.args.theirs
      ∙ ap (λ (o : SetOperation). zip2 (on_words o) c.args.mine c.args.theirs) (sym w.in-Difference.is))
]
