use Rattle.std.proofs.Common.{◌≡◌, ◌+◌, ◌<◌, ◌≤◌, List, length, length-drop, length-set, drop, set, sym, ap, ◌∙◌, arith}
use Rattle.std.proofs.lemmas.Grind.{common_steps}
use Rattle.std.proofs.lemmas.List.{drop-set-lt}
use Rattle.sketch_base.specs.Validity.{valid}
use Rattle.any_sketch.proofs.Spreading.{behind_rows, by_rows, few_valid, moved, no_more, nulled, one_more, placed_all, spread_out, waits_at}
use Rattle.any_sketch.proofs.valid_rows.spread_by.Goals.{then-next_is_set, else-next_is_set}
use Rattle.any_sketch.proofs.valid_rows.spread_by.Goals as goal

-- a result waits
pub bounds-results-next : goal.bounds-results-next
bounds-results-next g c =
    let there : c.each.i < length c.each.results = omega (arith, c.each-test.true, c.each.invariant.size) in
    let one = one_more c.each.bits c.next_is_set.new.self c.each.results c.each.i there (c.next_is_set.ensures.set c.if-next_is_set.true) in
    omega (arith, one, c.each.invariant.left)

pub overflow_add-next : goal.overflow_add-next
overflow_add-next g c =
    let there : c.each.i < length c.each.results = omega (arith, c.each-test.true, c.each.invariant.size) in
    let one = one_more c.each.bits c.next_is_set.new.self c.each.results c.each.i there (c.next_is_set.ensures.set c.if-next_is_set.true) in
    grind (arith, common_steps, one, c.each.invariant.left)

-- a result was moved to its row, or the row became null
pub each-preserved : goal.each-preserved
each-preserved g c =
    let there : c.each.i < length c.each.results = omega (arith, c.each-test.true, c.each.invariant.size) in
    let behind : c.each.i ≤ c.each.next = behind_rows c.each.bits c.each.results c.each.i c.each.next there c.each.invariant.left in
    elim c.if-next_is_set.branch [
      | then-next_is_set w ↦
          let one = one_more c.each.bits c.next_is_set.new.self c.each.results c.each.i there (c.next_is_set.ensures.set w.if-next_is_set.true) in
          let waits = waits_at c.each.results c.each.next w.index-results-next.result (omega (arith, one, c.each.invariant.left)) w.index-results-next.is in
          let x = w.index-results-next.result in
          let same : length (set c.each.results c.each.i x) ≡ length c.each.results = length-set c.each.results c.each.i x in
          let rest : drop (c.each.i + 1) (set c.each.results c.each.i x) ≡ drop (c.each.i + 1) c.each.results = drop-set-lt (c.each.i + 1) c.each.results c.each.i x (omega arith) in
          rw (w.results-is, w.next-is) (record {
            size = same ∙ c.each.invariant.size;
            left = ap (λ (xs : List _). c.each.next + 1 + length (valid c.next_is_set.new.self xs)) rest ∙ omega (arith, one, same, c.each.invariant.left);
            placed = moved c.each.bits c.next_is_set.new.self c.args.null x c.each.results c.each.i c.each.next there behind (c.next_is_set.ensures.set w.if-next_is_set.true) waits
                ∙ (c.each.invariant.placed ∙ ap (λ n. by_rows c.args.bits c.args.null n (drop c.args.from c.args.results.now)) (sym same));
          })
      | else-next_is_set w ↦
          let unset = c.next_is_set.ensures.unset w.if-next_is_set.false in
          let none = no_more c.each.bits c.next_is_set.new.self c.each.results c.each.i there unset in
          let same : length (set c.each.results c.each.i c.args.null) ≡ length c.each.results = length-set c.each.results c.each.i c.args.null in
          let rest : drop (c.each.i + 1) (set c.each.results c.each.i c.args.null) ≡ drop (c.each.i + 1) c.each.results = drop-set-lt (c.each.i + 1) c.each.results c.each.i c.args.null (omega arith) in
          let further : c.each.i < c.each.next = omega (arith, few_valid c.next_is_set.new.self (drop (c.each.i + 1) c.each.results), length-drop (c.each.i + 1) c.each.results, none, c.each.invariant.left, there) in
          rw (w.results-is, w.next-is) (record {
            size = same ∙ c.each.invariant.size;
            left = ap (λ (xs : List _). c.each.next + length (valid c.next_is_set.new.self xs)) rest ∙ omega (arith, none, same, c.each.invariant.left);
            placed = nulled c.each.bits c.next_is_set.new.self c.args.null c.each.results c.each.i c.each.next there further unset
                ∙ (c.each.invariant.placed ∙ ap (λ n. by_rows c.args.bits c.args.null n (drop c.args.from c.args.results.now)) (sym same));
          })
    ]

-- no row is left
pub returns-clause-rows : goal.returns-clause-rows
returns-clause-rows g c =
    let ended : c.each.i ≡ length c.each.results = omega (arith, c.each-test.false, c.each.auto.i-end, c.each.invariant.size) in
    let all = placed_all c.each.bits c.args.null c.each.results c.each.i (drop c.each.next c.each.results) ended in
    spread_out c.args.bits c.args.null c.args.results.now c.each.results c.args.from c.requires
    (sym all ∙ (c.each.invariant.placed ∙ ap (λ n. by_rows c.args.bits c.args.null n (drop c.args.from c.args.results.now)) c.each.invariant.size))
