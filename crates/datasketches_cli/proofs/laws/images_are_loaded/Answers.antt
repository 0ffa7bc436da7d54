use Rattle.datasketches_cli.proofs.Digits.{loads_what_was_shown, digits_make_what_was_shown}
use Rattle.datasketches_cli.proofs.laws.images_are_loaded.Goals as goal

pub returns-clause-loads : goal.returns-clause-loads
returns-clause-loads c = loads_what_was_shown

pub returns-clause-digits : goal.returns-clause-digits
returns-clause-digits c = digits_make_what_was_shown
