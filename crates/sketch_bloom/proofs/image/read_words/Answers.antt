use Rattle.std.proofs.Common.{arith, ◌≡◌, ℕ, ◌+◌, ◌-◌, ◌*◌, ◌<◌, ◌≤◌, ◌^◌, drop, sym, ap, ◌∙◌, drop-drop}
use Rattle.std.specs.Int.RustNames.{count_ones}
use Rattle.std.proofs.lemmas.List.Elements.{All-push}
use Rattle.std.proofs.lemmas.List.Sums.{sum_by_push}
use Rattle.std.proofs.lemmas.Nat.{ones-le}
use Rattle.sketch_bloom.proofs.Counting.{len-set_of}
use Rattle.sketch_bloom.proofs.Images.{next_word, all_fit}
use Rattle.sketch_bloom.proofs.image.read_words.Goals as goal

pub reads-preserved : goal.reads-preserved
reads-preserved c =
    let image = c.args.image.now in
    let i = c.reads.i in
    let at = 32 + 8 * i in
    let word = c.u64_at-word.result in
    let words = c.reads.words.items in
    let items = c.push_reserved.ensures.items in
    let fits : word < 2 ^ 64 = c.u64_at-word.type_inv in
    let ones : count_ones word ≤ 64 = ones-le 64 word fits in
    let next : drop (32 + 8 * (i + 1)) image ≡ drop 8 (drop at image) =
    ap (λ (n : ℕ). drop n image) (omega arith) ∙ sym (drop-drop 8 at image) in
    record {
      words = rw items (next_word words (c.args.num_words - i) (c.args.num_words - (i + 1)) at word image _ (omega (arith, c.reads-test.true)) c.u64_at-word.ensures next ∙ c.reads.invariant.words);
      count = omega (arith, c.push_reserved.ensures.len, c.reads.invariant.count);
      room = omega (arith, c.push_reserved.ensures.capacity, c.reads.invariant.room);
      fit = rw items (All-push (λ (w : ℕ). w < 2 ^ 64) words word c.reads.invariant.fit fits);
      size = rw items (ap (λ (n : ℕ). n + count_ones word) c.reads.invariant.size ∙ sym (sum_by_push count_ones words word));
      few = omega (arith, ones, c.reads.invariant.few);
    }

pub returns-clause-size : goal.returns-clause-size
returns-clause-size c =
    c.reads.invariant.size ∙ sym (len-set_of c.reads.words.items (all_fit c.reads.words.items c.reads.invariant.fit))
