use Rattle.std.proofs.Common.{◌≡◌, ◌+◌, ℕ, List, Bool, false, map, take, get_or, set, refl, ap, ◌∙◌, arith}
use Rattle.std.proofs.lemmas.List.{get_or-map, get_or-set_other}
use Rattle.sketch_base.specs.Batches.{written_more, written_all}
use Rattle.sketch_bloom.specs.Pairs.{contains_pair}
use Rattle.sketch_bloom.proofs.Pairs.{contains_first_of}
use Rattle.sketch_bloom.proofs.bits.Bits.contains_pairs.Goals as goal

pub firsts-init : goal.firsts-init
firsts-init g c = refl

pub firsts-preserved : goal.firsts-preserved
firsts-preserved g c =
    ap (λ b. take (c.firsts.i + 1) (set c.firsts.answers c.firsts.i b)) c.contains_first.ensures
    ∙ written_more (contains_first_of c.args.self.now) c.args.pairs.now c.firsts.answers c.firsts.i (0, 0) c.firsts-test.true (omega arith) c.firsts.invariant

pub others-init : goal.others-init
others-init g c =
    let f : ℕ × ℕ → Bool = contains_first_of c.args.self.now in
    let all : c.firsts.answers ≡ map f c.args.pairs.now = written_all f c.args.pairs.now c.firsts.answers c.firsts.i c.firsts-test.false (omega arith) c.firsts.invariant in
    record {
      done = refl;
      left = λ k _ l. ap (λ (bs : List Bool). get_or bs k false) all ∙ get_or-map f c.args.pairs.now k (0, 0) false l;
    }

pub contains_behind-requires : goal.contains_behind-requires
contains_behind-requires g c = c.others.invariant.left c.others.i (omega arith) c.others-test.true

pub others-preserved : goal.others-preserved
others-preserved g c = record {
  done = ap (λ b. take (c.others.i + 1) (set c.others.answers c.others.i b)) c.contains_behind.ensures
      ∙ written_more (contains_pair c.args.self.now) c.args.pairs.now c.others.answers c.others.i (0, 0) c.others-test.true (omega arith) c.others.invariant.done;
  left = λ k above l. get_or-set_other c.others.answers c.others.i k c.contains_behind.result false (λ e. omega arith) ∙ c.others.invariant.left k (omega arith) l;
}

pub returns : goal.returns
returns g c =
    written_all (contains_pair c.args.self.now) c.args.pairs.now c.others.answers c.others.i c.others-test.false (omega arith) c.others.invariant.done
