use Rattle.std.proofs.Common.{◌≡◌, ℕ, List, ◌+◌, take, drop, sym, ap, ap₂, ◌∙◌, arith}
use Rattle.std.specs.Int.RustNames.{count_ones}
use Rattle.std.specs.List.{sum_by}
use Rattle.std.proofs.Math.Seq.{take-add}
use Rattle.std.proofs.lemmas.List.{drop-drop}
use Rattle.std.proofs.lemmas.List.Sums.{sum_by-append}
use Rattle.sketch_bloom.proofs.bit_set.ones_of_eight.Goals as goal

-- eight words are four and then four
pub returns-clause-count : goal.returns-clause-count
returns-clause-count c =
    let words : List ℕ = c.args.words.now in
    let front : List ℕ = drop c.args.at words in
    let behind : drop (c.args.at + 4) words ≡ drop 4 front = ap (λ (n : ℕ). drop n words) (omega arith) ∙ sym (drop-drop 4 c.args.at words) in
    ap₂ (λ (a b : ℕ). a + b) c.ones_of_four.ensures.count (c.ones_of_four-2.ensures.count ∙ ap (λ (ws : List ℕ). sum_by count_ones (take 4 ws)) behind)
    ∙ sym (ap (sum_by count_ones) (take-add 4 4 front) ∙ sum_by-append count_ones (take 4 front) (take 4 (drop 4 front)))
