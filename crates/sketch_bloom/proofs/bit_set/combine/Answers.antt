use Rattle.std.proofs.Common.{ℕ, List, ◌+◌, ◌*◌, ◌≡◌, ◌<◌, ◌≤◌, ◌^◌, get_or, set, refl, sym, ap, ◌∙◌, arith}
use Rattle.std.specs.Int.RustNames.{count_ones}
use Rattle.std.proofs.lemmas.Nat.{ones-le}
use lib.Lanes.{zip2}
use Rattle.sketch_bloom.specs.BitSet.{set_of}
use Rattle.sketch_bloom.specs.Operations.{on_words}
use Rattle.sketch_bloom.proofs.Counting.{len-set_of}
use Rattle.sketch_bloom.proofs.Lanes.{Combined, combined_none, combined_block, combined_word, combined_all, counted_all}
use Rattle.sketch_bloom.proofs.Members.{set_of-on_words, words_fit}
use Rattle.sketch_bloom.proofs.bit_set.combine.Goals as goal

pub eights-init : goal.eights-init
eights-init c = combined_none (on_words c.args.operation) 0 c.args.words.now c.args.other.now refl (λ k. (c.type_inv.words k).fits)

pub eights-preserved : goal.eights-preserved
eights-preserved c =
    combined_block (on_words c.args.operation) 8 (8 * c.eights.b) (8 * (c.eights.b + 1)) c.args.words.now c.args.other.now c.eights.words _ c.eights.size c.ones_of_eight-size.result
    (omega arith) c.requires.same (omega arith) (omega arith) c.eights.invariant
    c.combine_block.ensures c.ones_of_eight-size.ensures.count c.ones_of_eight-size.ensures.few

pub fours-preserved : goal.fours-preserved
fours-preserved c =
    combined_block (on_words c.args.operation) 4 (4 * c.fours.b) (4 * (c.fours.b + 1)) c.args.words.now c.args.other.now c.fours.words _ c.fours.size c.ones_of_four-size.result
    (omega arith) c.requires.same (omega arith) (omega arith) c.fours.invariant
    c.combine_block-in-fours.ensures c.ones_of_four-size.ensures.count c.ones_of_four-size.ensures.few

pub overflow_add-size-in-rest : goal.overflow_add-size-in-rest
overflow_add-size-in-rest c =
    let word : ℕ = get_or (set c.rest.words c.rest.i c.word.result) c.rest.i 0 in
    let ones : count_ones word ≤ 64 = ones-le 64 word (c.type_inv.words c.rest.i).fits in
    record { fits = omega arith }

pub rest-preserved : goal.rest-preserved
rest-preserved c =
    let f : ℕ → ℕ → ℕ = on_words c.args.operation in
    let step : Combined f (c.rest.i + 1) c.args.words.now c.args.other.now (set c.rest.words c.rest.i c.word.result) (c.rest.size + count_ones (get_or (set c.rest.words c.rest.i c.word.result) c.rest.i 0)) =
    combined_word f c.rest.i c.args.words.now c.args.other.now c.rest.words c.rest.size c.word.result c.requires.same (omega arith) (omega arith) c.rest.invariant c.word.ensures (c.type_inv.words c.rest.i).fits in
    step

pub returns : goal.returns
returns c =
    let f : ℕ → ℕ → ℕ = on_words c.args.operation in
    let mine : List ℕ = c.args.words.now in
    let theirs : List ℕ = c.args.other.now in
    let all : c.rest.words ≡ zip2 f mine theirs = combined_all f c.rest.i mine theirs c.rest.words c.rest.size c.requires.same (omega arith) c.rest.invariant in
    let fits : (k : ℕ) → get_or c.rest.words k 0 < 2 ^ 64 = λ k. rw all (words_fit c.args.operation mine theirs (sym c.requires.same) (λ k. c.rest.invariant.fits k) (λ k. (c.type_inv.other k).fits) k) in
    record {
      combined = ap set_of all ∙ set_of-on_words c.args.operation mine theirs (sym c.requires.same) (λ k. (c.type_inv.other k).fits);
      size = counted_all f c.rest.i mine theirs c.rest.words c.rest.size (omega arith) c.rest.invariant ∙ sym (len-set_of c.rest.words fits);
    }
