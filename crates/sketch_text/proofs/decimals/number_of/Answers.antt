use Rattle.std.proofs.Common.{◌∙◌, refl, sym, arith}
use Rattle.sketch_text.proofs.Digits.{number_of_other, number_too_large, reads_more}
use Rattle.sketch_text.proofs.decimals.number_of.Goals as goal

pub returns-then-not-is_ascii_digit : goal.returns-then-not-is_ascii_digit
returns-then-not-is_ascii_digit c = number_of_other c.args.text.now c.digits.at (omega (arith, c.digits-test.true)) (sym c.is_ascii_digit.ensures.value ∙ c.if-not-is_ascii_digit.true)

pub returns-then-value-digit : goal.returns-then-value-digit
returns-then-value-digit c =
    number_too_large c.args.text.now c.digits.at c.digits.value c.from-digit.result c.digits.invariant (omega (arith, c.digits-test.true))
    (sym c.is_ascii_digit.ensures.value ∙ c.if-not-is_ascii_digit.false) c.from-digit.ensures (omega (arith, c.if-value-digit.true))

pub digits-preserved : goal.digits-preserved
digits-preserved c =
    reads_more c.args.text.now c.digits.at c.digits.value c.from-digit.result _ c.digits.invariant (omega (arith, c.digits-test.true))
    (sym c.is_ascii_digit.ensures.value ∙ c.if-not-is_ascii_digit.false) c.from-digit.ensures refl
