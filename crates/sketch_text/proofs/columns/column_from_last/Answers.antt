use Rattle.std.proofs.Common.{◌≡◌, ℕ, ◌+◌, drop, length, sym, ◌∙◌, ap, arith, length-drop}
use Rattle.sketch_text.specs.Columns.{columns_of}
use Rattle.sketch_text.proofs.Delimited.{one_less}
use Rattle.sketch_text.proofs.LastColumns.{none_from_last}
use Rattle.sketch_text.proofs.columns.column_from_last.Goals as goal

pub returns-in_err-after : goal.returns-in_err-after
returns-in_err-after c =
    let all = columns_of c.args.split c.args.row.now in
    rw c.from_residual.ensures (none_from_last c.args.behind all (omega (arith, length-drop c.ahead.at all, ap length (sym c.ahead.invariant ∙ c.in_err-after.ensures), c.ahead-test.true)))

pub ahead-preserved : goal.ahead-preserved
ahead-preserved c = sym (one_less c.ahead.at (columns_of c.args.split c.args.row.now) _ _ _ (sym c.ahead.invariant) c.in_ok-after.ensures)

pub returns-in_err-after-2 : goal.returns-in_err-after-2
returns-in_err-after-2 c =
    let all = columns_of c.args.split c.args.row.now in
    rw c.from_residual-in_err-after-2.ensures
    (none_from_last c.args.behind all (omega (arith, length-drop c.ahead.at all, ap length (sym c.ahead.invariant ∙ c.in_err-after-2.ensures), c.ahead-test.false, c.ahead.auto.at-end)))

pub last_before-requires-clause-ahead : goal.last_before-requires-clause-ahead
last_before-requires-clause-ahead c =
    let all = columns_of c.args.split c.args.row.now in
    let end : c.ahead.at ≡ c.args.behind = omega (arith, c.ahead-test.false, c.ahead.auto.at-end) in
    sym (one_less c.ahead.at all _ _ _ (sym c.ahead.invariant) c.in_ok-after-2.ensures) ∙ (ap (λ (n : ℕ). drop (n + 1) all) end ∙ ap (drop (c.args.behind + 1)) (sym c.all_columns-all.ensures))
