use Rattle.sketch_text.proofs.Digits.{HasRead}
use Rattle.sketch_text.proofs.decimals.number_of.Given as goal

abbrev pub invariant-digits : goal.invariant-digits
invariant-digits l = HasRead l.text l.at l.value
